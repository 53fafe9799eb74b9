-- The control surfaces (01, module 3). Definitions only.
use Rattle.std.specs.Prelude.{ℕ, ltb, Float, replicate, set, cond, List}
use Rattle.std.specs.Float.Ieee.{lt}
use Rattle.float.specs.Notation.{◌⊘◌, minus_one, zero, one}
use Rattle.lag.specs.Lag.{approach_saturated}
use Rattle.mixers.specs.Rows.{live_of, put_to, row_factors}
use Rattle.mixers.specs.Slots.{at, slots, vec_at, vec_sum_to}
use Rattle.mixers.specs.declared.MixRow.{MixRow}
use Rattle.mixers.specs.declared.Rows.{Rows}
use Rattle.mixers.specs.declared.Slot.{Slot}
use Rattle.mixers.specs.declared.Slot.TheVariants.{Lift, Motor, Servo}
use Rattle.vector.specs.Vector.{component_mul, scale_of, vec, zero_vec}
use Rattle.vector.specs.declared.Vec3.{Vec3}
use Rattle.surfaces.specs.declared.Factors.{Factors}
use Rattle.surfaces.specs.declared.Surfaces.{Surfaces}

-- ---- weights from the servo rows: of several for one slot the last counts
unfoldable pub put_servo : Factors → ℕ → Vec3 → Factors
put_servo f k v = cond (ltb k 8) (record { at = set f.at k v }) f

unfoldable pub put_servo_at : Factors → Slot → Vec3 → Factors
put_servo_at f (Motor k) v = f
put_servo_at f (Servo k) v = put_servo f k v
put_servo_at f (Lift k) v = f

unfoldable pub put_servo_row : Factors → MixRow → Factors
put_servo_row f row = put_servo_at f row.slot (row_factors row)

abbrev pub no_factors : Factors
no_factors = record { at = replicate 8 zero_vec }

unfoldable pub factors_of : Rows → List Vec3
factors_of rows = (put_to put_servo_row no_factors rows.rows (live_of rows)).at

-- each factor over its axis's sum of squares; 0 where that is 0
unfoldable pub square_at : List Vec3 → ℕ → Vec3
square_at fs k = component_mul (vec_at fs k) (vec_at fs k)

unfoldable pub squares_of : List Vec3 → Vec3
squares_of fs = vec_sum_to (square_at fs) 8

unfoldable pub inverse_or_zero : Float → Float
inverse_or_zero s = cond (lt zero s) (one ⊘ s) zero

unfoldable pub inverse_of : Vec3 → Vec3
inverse_of s = vec (inverse_or_zero s.x) (inverse_or_zero s.y) (inverse_or_zero s.z)

unfoldable pub weight_at : List Vec3 → ℕ → Vec3
weight_at fs k = component_mul (vec_at fs k) (inverse_of (squares_of fs))

unfoldable pub weighed : List Vec3 → List Vec3
weighed fs = slots (weight_at fs)

unfoldable pub surfaces_of : Rows → Surfaces
surfaces_of rows = record { weights = weighed (factors_of rows); running = replicate 8 zero }

-- ---- moving: a NaN command goes to neutral 0
unfoldable pub move_at : Surfaces → List Float → Float → ℕ → Float
move_at s commands factor k = approach_saturated (at s.running k) (at commands k) minus_one one zero factor

unfoldable pub move_to : Surfaces → List Float → Float → Surfaces
move_to s commands factor = record { weights = s.weights; running = slots (move_at s commands factor) }

-- ---- aileron, elevator and rudder: the sums of weight times position, times the deflection at full command
unfoldable pub deflection_at : List Vec3 → List Float → ℕ → Vec3
deflection_at weights running k = scale_of (vec_at weights k) (at running k)

unfoldable pub deflection_rad : Surfaces → Vec3 → Vec3
deflection_rad s most = component_mul (vec_sum_to (deflection_at s.weights s.running) 8) most

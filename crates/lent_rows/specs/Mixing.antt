-- Torques and weights filled from a lent slice of rows in one walk (01, "Which places take which form"); the array form stays beside
-- it. Definitions only.
use Rattle.std.specs.Prelude.{Float, replicate, take, List, [], ◌∷◌}
use Rattle.float.specs.Notation.{zero}
use Rattle.mixers.specs.Rows.{live_of}
use Rattle.mixers.specs.declared.MixRow.{MixRow}
use Rattle.mixers.specs.declared.Rows.{Rows}
use Rattle.motors.specs.Motor.{put_lift_row, put_motor_row, empty_group}
use Rattle.motors.specs.declared.MotorLayout.{MotorLayout}
use Rattle.surfaces.specs.Surface.{no_factors, put_servo_row, weighed}
use Rattle.surfaces.specs.declared.Surfaces.{Surfaces}
use Rattle.lent_rows.specs.declared.Mix.{Mix}

-- before the first row no motor, no lift rotor and no servo is driven
unfoldable pub start_of : MotorLayout → Float → MotorLayout → Float → Mix
start_of l tau l' tau' = record { motors = empty_group l tau; lift = empty_group l' tau'; factors = no_factors }

-- one row: a motor's goes to the motors, a lift rotor's to the lift rotors, a servo's to the factors (01, modules 2 and 3; 02, 5)
unfoldable pub put_row : Mix → MixRow → Mix
put_row m row = record { motors = put_motor_row m.motors row; lift = put_lift_row m.lift row; factors = put_servo_row m.factors row }

-- the rows of a list in their order: of several for one slot the last counts
unfoldable pub mix_from : Mix → List MixRow → Mix
mix_from m [] = m
mix_from m (row ∷ rows) = mix_from (put_row m row) rows

-- the rows of the array form, as a list
unfoldable pub mix_of : Rows → MotorLayout → Float → MotorLayout → Float → Mix
mix_of rows l tau l' tau' = mix_from (start_of l tau l' tau') (take (live_of rows) rows.rows)

-- the servos that are filled, each factor over its axis's sum of squares (01, module 3)
unfoldable pub surfaces_in : Mix → Surfaces
surfaces_in m = record { weights = weighed m.factors.at; running = replicate 8 zero }

-- Acceptance of an airframe (01, answer 6 and "Airframe numbers by place"; 02, 5): the lowest place whose number is out of range, 0
-- where the airframe is accepted. Definitions only.
use Rattle.std.specs.Prelude.{◌+◌, ◌-◌, ℕ, eqb, Float, get_or, set, Bool, cond, true, List, [], ◌∷◌}
use Rattle.std.specs.Float.{nan}
use Rattle.std.specs.Float.Ieee.{neg}
use Rattle.fixed_wing.specs.declared.ThrustFalloff.{ThrustFalloff}
use Rattle.fixed_wing.specs.declared.ThrustFalloff.TheVariants.{Linear, PitchSpeed}
use Rattle.float.specs.Interval.{inside}
use Rattle.float.specs.Notation.{zero, rounded}
use Rattle.ordered.specs.Ordered.{after, first_fail, first_of}
use Rattle.mixers.specs.Slots.{at, vec_at}
use Rattle.vector.specs.Vector.{vec_inside}
use Rattle.vector.specs.declared.Vec3.{Vec3}
use Rattle.airframe.specs.Numbers.{base_segment, lift_segment, numbers_of, wash_segment}
use Rattle.airframe.specs.declared.Airframe.{Airframe}
use Rattle.airframe.specs.declared.Limits.{Limits}
use Rattle.airframe.specs.declared.numbers.Segment.{Segment}

-- ---- limits: a line a place, the least and the largest number; 37's are those of a Linear falloff
abbrev pub range : Float → Float → Limits
range low high = (low, high)

unfoldable pub limits_table : List Limits
limits_table =
    range (rounded 1 100) (rounded 1000 1) ∷  -- 1 mass_kg
    range (rounded 1 10000) (rounded 1000 1) ∷  -- 2 inertia_kgm2, roll
    range (rounded 1 10000) (rounded 1000 1) ∷  -- 3 inertia_kgm2, pitch
    range (rounded 1 10000) (rounded 1000 1) ∷  -- 4 inertia_kgm2, yaw
    range (rounded 1 100) (rounded 100 1) ∷  -- 5 wing_area_m2
    range (rounded 1 10) (rounded 100 1) ∷  -- 6 span_m
    range (rounded 1 100) (rounded 10 1) ∷  -- 7 chord_m
    range (neg (rounded 100 1)) (rounded 100 1) ∷  -- 8 c_lift_0
    range (neg (rounded 100 1)) (rounded 100 1) ∷  -- 9 c_lift_alpha
    range zero (rounded 16 10) ∷  -- 10 alpha_stall_rad
    range zero (rounded 1000 1) ∷  -- 11 stall_sharpness
    range (neg (rounded 100 1)) (rounded 100 1) ∷  -- 12 c_drag_0
    range (rounded 1 10) (rounded 2 1) ∷  -- 13 oswald
    range (neg (rounded 100 1)) (rounded 100 1) ∷  -- 14 c_side_beta
    range (neg (rounded 100 1)) (rounded 100 1) ∷  -- 15 c_side_rudder
    range (neg (rounded 100 1)) (rounded 100 1) ∷  -- 16 c_roll_beta
    range (neg (rounded 100 1)) (rounded 100 1) ∷  -- 17 c_roll_p
    range (neg (rounded 100 1)) (rounded 100 1) ∷  -- 18 c_roll_r
    range (neg (rounded 100 1)) (rounded 100 1) ∷  -- 19 c_roll_aileron
    range (neg (rounded 100 1)) (rounded 100 1) ∷  -- 20 c_roll_rudder
    range (neg (rounded 100 1)) (rounded 100 1) ∷  -- 21 c_pitch_0
    range (neg (rounded 100 1)) (rounded 100 1) ∷  -- 22 c_pitch_alpha
    range zero (rounded 1 1) ∷  -- 23 post_stall_pitch_share
    range (neg (rounded 100 1)) (rounded 100 1) ∷  -- 24 c_pitch_q
    range (neg (rounded 100 1)) (rounded 100 1) ∷  -- 25 c_pitch_elevator
    range zero (rounded 1 1) ∷  -- 26 surface_stall_share
    range (neg (rounded 100 1)) (rounded 100 1) ∷  -- 27 c_yaw_beta
    range (neg (rounded 100 1)) (rounded 100 1) ∷  -- 28 c_yaw_p
    range (neg (rounded 100 1)) (rounded 100 1) ∷  -- 29 c_yaw_r
    range (neg (rounded 100 1)) (rounded 100 1) ∷  -- 30 c_yaw_rudder
    range (neg (rounded 16 10)) (rounded 16 10) ∷  -- 31 max_deflection_rad, aileron
    range (neg (rounded 16 10)) (rounded 16 10) ∷  -- 32 max_deflection_rad, elevator
    range (neg (rounded 16 10)) (rounded 16 10) ∷  -- 33 max_deflection_rad, rudder
    range (rounded 1 1000) (rounded 10 1) ∷  -- 34 servo_time_constant_s
    range (rounded 1 100) (rounded 10000 1) ∷  -- 35 max_thrust_n
    range (rounded 1 1) (rounded 3 1) ∷  -- 36 thrust_exponent
    range zero (rounded 10000 1) ∷  -- 37 thrust_falloff, Linear's
    range (neg (rounded 10 1)) (rounded 10 1) ∷  -- 38 thrust_line_below_cg_m
    range (rounded 1 1000) (rounded 10 1) ∷  -- 39 time_constant_s of the motors
    range zero (rounded 10 1) ∷  -- 40 moment_arm_m
    range (neg (rounded 10 1)) (rounded 10 1) ∷  -- 41 yaw_torque_per_thrust_m
    range (rounded 1 1000) (rounded 100 1) ∷  -- 42 disc_area_m2
    range zero (rounded 10 1) ∷  -- 43 surface_fraction
    range zero (rounded 10 1) ∷  -- 44 roll_fraction
    range (neg (rounded 100 1)) (rounded 100 1) ∷  -- 45 pitch_moment
    range (neg (rounded 100 1)) (rounded 100 1) ∷  -- 46 stall_pitch_moment
    range zero (rounded 10 1) ∷  -- 47 sink_loss
    range zero (rounded 10 1) ∷  -- 48 damping_fraction
    range (rounded 1 100) (rounded 10000 1) ∷  -- 52 max_thrust_n of a lift rotor
    range (rounded 1 1) (rounded 3 1) ∷  -- 53 thrust_exponent of the lift rotors
    range zero (rounded 10 1) ∷  -- 54 moment_arm_m of the lift rotors
    range (neg (rounded 10 1)) (rounded 10 1) ∷  -- 55 yaw_torque_per_thrust_m of the lift rotors
    range (rounded 1 1000) (rounded 10 1) ∷  -- 56 time_constant_s of the lift rotors
    range zero (rounded 10 1) ∷  -- 57 drag_per_thrust_n_per_mps
    []

-- 37 falloff: Linear 0..10000, PitchSpeed 0.1..10000
unfoldable pub limits_for : ThrustFalloff → List Limits
limits_for (Linear n) = limits_table
limits_for (PitchSpeed n) = set limits_table 36 (range (rounded 1 10) (rounded 10000 1))

abbrev pub limits_at : List Limits → ℕ → Limits
limits_at limits k = get_or limits k (range nan nan)

-- ---- a segment of the numbers: the lowest place that is out of range; an absent segment's numbers are not tested
unfoldable pub number_inside : List Limits → List Float → ℕ → Bool
number_inside limits numbers k = inside (limits_at limits k).0 (limits_at limits k).1 (at numbers k)

unfoldable pub inside_from : List Limits → List Float → ℕ → ℕ → Bool
inside_from limits numbers first k = number_inside limits numbers (first + k)

unfoldable pub segment_outside : List Limits → List Float → Segment → ℕ
segment_outside limits numbers s =
    cond s.present (after (s.place - 1) (first_fail (inside_from limits numbers s.first) 0 s.count)) 0

-- ---- the other parts

-- a bad row factor (49), which only a block has
unfoldable pub row_factors_outside : Bool → ℕ
row_factors_outside fit = cond fit 0 49

-- motor torques ±100 (50), surface weights ±101 (51): over all 8 slots and three axes
unfoldable pub slot_vec_inside : Float → List Vec3 → ℕ → Bool
slot_vec_inside limit vs k = vec_inside limit (vec_at vs k)

unfoldable pub vectors_outside : Float → ℕ → List Vec3 → ℕ
vectors_outside limit place vs = cond (eqb (first_fail (slot_vec_inside limit vs) 0 8) 0) 0 place

-- lift torques as the motors' (58), and not tested without lift numbers (02, 5)
unfoldable pub lift_torques_outside : Bool → List Vec3 → ℕ
lift_torques_outside present torques = cond present (vectors_outside (rounded 100 1) 58 torques) 0

-- ---- the parts in the order of their places: the first that is out of range tells its place. `lift_torque` is what
-- `lift_torques_outside` says of the lift torques: 58, or 0
unfoldable pub first_refused : List Float → ThrustFalloff → Bool → Bool → List Vec3 → List Vec3 → Bool → ℕ → ℕ
first_refused numbers falloff wash rows torques weights lift lift_torque =
    first_of
    (segment_outside (limits_for falloff) numbers base_segment
    ∷ segment_outside (limits_for falloff) numbers (wash_segment wash)
    ∷ row_factors_outside rows
    ∷ vectors_outside (rounded 100 1) 50 torques
    ∷ vectors_outside (rounded 101 1) 51 weights
    ∷ segment_outside (limits_for falloff) numbers (lift_segment lift)
    ∷ lift_torque
    ∷ [])

-- of an airframe whose rows' factors all fit, or not
unfoldable pub lowest_place : Bool → Airframe → ℕ
lowest_place rows a =
    first_refused (numbers_of a) a.model.thrust_falloff a.wash_present rows a.motors.torque_per_thrust_m a.weights
    a.lift_present
    (lift_torques_outside a.lift_present a.lift.motors.torque_per_thrust_m)

-- of an airframe that is not of a block: it has no rows
unfoldable pub refused_place : Airframe → ℕ
refused_place a = lowest_place true a

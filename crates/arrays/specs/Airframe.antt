-- An airframe as an array of numbers: those by place (01, "Airframe numbers by place"), the falloff's kind (0 Linear, else
-- PitchSpeed), whether a wash is present, which motors are used (0 no, else yes), the motors' torques and the surfaces' weights
-- (roll, pitch, yaw of each slot); then the lift rotors' numbers, whether they are present, which are used, and their torques
-- (02, 5). An array grows at its end alone. Definitions only.
use Rattle.std.specs.Prelude.{◌%◌, ◌*◌, ◌+◌, ◌-◌, ◌/◌, ℕ, eqb, ltb, Float, Bool, cond, not, List}
use Rattle.std.specs.Float.Ieee.{eq}
use Rattle.airframe.specs.FromNumbers.{airframe_of, lift_constant, lift_layout_of, motor_constant, motor_layout_of}
use Rattle.airframe.specs.Numbers.{lift_count, lift_first, numbers_count, numbers_of, wash_count, wash_first}
use Rattle.airframe.specs.declared.Airframe.{Airframe}
use Rattle.float.specs.Lists.{list_of}
use Rattle.mixers.specs.Slots.{at, flag_at, slots, vec_at as slot_vec}
use Rattle.fixed_wing.specs.declared.ThrustFalloff.{ThrustFalloff}
use Rattle.fixed_wing.specs.declared.ThrustFalloff.TheVariants.{Linear, PitchSpeed}
use Rattle.float.specs.Notation.{zero, one}
use Rattle.motors.specs.declared.MotorGroup.{MotorGroup}
use Rattle.motors.specs.declared.MotorLayout.{MotorLayout}
use Rattle.vector.specs.declared.Vec3.{Vec3}
use Rattle.arrays.specs.Flight.{vec_in}

-- at which number each part begins: the numbers of the base and of the wash begin it
abbrev pub kind_at : ℕ
kind_at = wash_first + wash_count

abbrev pub wash_at : ℕ
wash_at = kind_at + 1

abbrev pub used_at : ℕ
used_at = wash_at + 1

abbrev pub torques_at : ℕ
torques_at = used_at + 8

abbrev pub weights_at : ℕ
weights_at = torques_at + 3 * 8

abbrev pub lift_numbers_at : ℕ
lift_numbers_at = weights_at + 3 * 8

abbrev pub lift_present_at : ℕ
lift_present_at = lift_numbers_at + lift_count

abbrev pub lift_used_at : ℕ
lift_used_at = lift_present_at + 1

abbrev pub lift_torques_at : ℕ
lift_torques_at = lift_used_at + 8

abbrev pub airframe_numbers_count : ℕ
airframe_numbers_count = lift_torques_at + 3 * 8

-- ---- from an array

-- 0 for either zero, else 1 (a NaN too)
unfoldable pub kind_of : Float → ℕ
kind_of x = cond (eq x zero) 0 1

unfoldable pub is_set : Float → Bool
is_set x = not (eq x zero)

-- where number k of those by place stands
unfoldable pub number_at : ℕ → ℕ
number_at k = cond (ltb k lift_first) k (lift_numbers_at + (k - lift_first))

unfoldable pub numbers_in : List Float → List Float
numbers_in xs = list_of (λ (k : ℕ). at xs (number_at k)) numbers_count

unfoldable pub vecs_in : List Float → ℕ → List Vec3
vecs_in xs i = slots (λ (k : ℕ). vec_in xs (i + 3 * k))

unfoldable pub flags_in : List Float → ℕ → List Bool
flags_in xs i = slots (λ (k : ℕ). is_set (at xs (i + k)))

-- the group whose marks stand at i, with their torques behind them
unfoldable pub group_in : List Float → MotorLayout → Float → ℕ → MotorGroup
group_in xs l tau i = record {
  layout = l;
  time_constant_s = tau;
  used = flags_in xs i;
  torque_per_thrust_m = vecs_in xs (i + 8);
}

-- the airframe, ps being the numbers by place
unfoldable pub airframe_with : List Float → List Float → Airframe
airframe_with xs ps =
    airframe_of ps (kind_of (at xs kind_at)) (is_set (at xs wash_at)) (is_set (at xs lift_present_at))
    (group_in xs (motor_layout_of ps) (motor_constant ps) used_at)
    (vecs_in xs weights_at)
    (group_in xs (lift_layout_of ps) (lift_constant ps) lift_used_at)

unfoldable pub airframe_in : List Float → Airframe
airframe_in xs = airframe_with xs (numbers_in xs)

-- ---- to an array

abbrev pub kind_number : ThrustFalloff → Float
kind_number (Linear n) = zero
kind_number (PitchSpeed n) = one

unfoldable pub flag_number : Bool → Float
flag_number b = cond b one zero

-- roll, pitch or yaw
unfoldable pub axis_of : Vec3 → ℕ → Float
axis_of v n = cond (eqb n 0) v.x (cond (eqb n 1) v.y v.z)

-- number k of the vectors of the 8 slots
unfoldable pub vecs_number : List Vec3 → ℕ → Float
vecs_number vs k = axis_of (slot_vec vs (k / 3)) (k % 3)

-- from the lift rotors' numbers on
unfoldable pub lift_number : Airframe → ℕ → Float
lift_number a k =
    cond (ltb k lift_present_at) (at (numbers_of a) (lift_first + (k - lift_numbers_at)))
    (cond (ltb k lift_used_at) (flag_number a.lift_present)
    (cond (ltb k lift_torques_at) (flag_number (flag_at a.lift.motors.used (k - lift_used_at)))
    (vecs_number a.lift.motors.torque_per_thrust_m (k - lift_torques_at))))

unfoldable pub airframe_number : Airframe → ℕ → Float
airframe_number a k =
    cond (ltb k kind_at) (at (numbers_of a) k)
    (cond (ltb k wash_at) (kind_number a.model.thrust_falloff)
    (cond (ltb k used_at) (flag_number a.wash_present)
    (cond (ltb k torques_at) (flag_number (flag_at a.motors.used (k - used_at)))
    (cond (ltb k weights_at) (vecs_number a.motors.torque_per_thrust_m (k - torques_at))
    (cond (ltb k lift_numbers_at) (vecs_number a.weights (k - weights_at))
    (lift_number a k))))))

unfoldable pub airframe_numbers : Airframe → List Float
airframe_numbers a = list_of (airframe_number a) airframe_numbers_count

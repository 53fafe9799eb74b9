-- A state or a tick read from its own array is the same again, and an airframe read from its own array the airframe: so a tick of a
-- prepared airframe is the tick of the airframe that was read. Arrays have 8 elements, which their types tell. Assumes nothing.
use Prim.Native.Nat.{ℕ}
use lib.Ieee.{nan}
use lib.IntN.{pos}
use lib.ListN.{get_or, length}
use mathlib.Core.Bool.{Bool, false, true}
use mathlib.Core.List.{List, map-id}
use mathlib.Core.Path.{◌∙◌, ◌≡◌, ap, refl}
use Rattle.airframe.proofs.RoundTrip.{airframe-again as of-numbers}
use Rattle.airframe.specs.FromNumbers.{airframe_of, falloff_of, lift_layout_of, motor_layout_of}
use Rattle.airframe.specs.Numbers.{base_numbers, coefficient_numbers, falloff_number, lift_numbers, numbers_of, wash_numbers}
use Rattle.airframe.specs.declared.Airframe.{Airframe}
use Rattle.float.specs.Lists.{list_from, list_of}
use Rattle.mixers.specs.Slots.{flag_at, slots, vec_at as slot_vec}
use Rattle.fixed_wing.specs.declared.ThrustFalloff.{ThrustFalloff}
use Rattle.fixed_wing.specs.declared.ThrustFalloff.TheVariants.{Linear, PitchSpeed}
use Rattle.flight.specs.declared.Flight.{Flight}
use Rattle.flight.specs.declared.Tick.{Tick}
use Rattle.float.proofs.Zeros.{some-not-zero, zero-is-zero}
use Rattle.mixers.proofs.Slots.{map-slots}
use Rattle.motors.specs.declared.MotorGroup.{MotorGroup}
use Rattle.vector.specs.Vector.{vec}
use Rattle.vector.specs.declared.Vec3.{Vec3}
use Rattle.arrays.specs.Airframe.{airframe_in, airframe_number, airframe_numbers, airframe_with, axis_of, flag_number, flags_in}
use Rattle.arrays.specs.Airframe.{group_in, is_set, kind_number, kind_of, lift_number, number_at, numbers_in, vecs_in, vecs_number}
use Rattle.arrays.specs.Flight.{flight_numbers, flight_in, quat_in, slots_in, tick_in, tick_numbers, vec_in}

-- a list of 8 by its elements
slots-again : {X : Type 0} (d : X) (xs : List X) → length xs ≡ 8 → slots (λ (k : ℕ). get_or xs k d) ≡ xs
slots-again d xs e = map-slots d (λ x. x) xs e ∙ map-id xs

pub flight-again : (f : Flight) → length f.motors ≡ 8 → length f.servos ≡ 8 → length f.thrust_scale ≡ 8 → length f.lift_motors ≡ 8
    → flight_in (flight_numbers f) ≡ f
unfolding flight_in flight_numbers vec_in quat_in slots_in
flight-again f m s c l = λ i. record {
  north_m = f.north_m;
  east_m = f.east_m;
  down_m = f.down_m;
  north_mps = f.north_mps;
  east_mps = f.east_mps;
  down_mps = f.down_mps;
  w = f.w;
  i = f.i;
  j = f.j;
  k = f.k;
  p_radps = f.p_radps;
  q_radps = f.q_radps;
  r_radps = f.r_radps;
  motors = slots-again nan f.motors m i;
  servos = slots-again nan f.servos s i;
  thrust_scale = slots-again nan f.thrust_scale c i;
  lift_motors = slots-again nan f.lift_motors l i;
}

pub tick-again : (t : Tick) → length t.motors ≡ 8 → length t.servos ≡ 8 → tick_in (tick_numbers t) ≡ t
unfolding tick_in tick_numbers vec_in slots_in
tick-again t m s = λ i. record {
  step_s = t.step_s;
  wind_ned_mps = t.wind_ned_mps;
  motors = slots-again nan t.motors m i;
  servos = slots-again nan t.servos s i;
}

-- a falloff by its kind and number, a flag by its number
falloff-again : (x : ThrustFalloff) → falloff_of (kind_of (kind_number x)) (falloff_number x) ≡ x
unfolding falloff_of kind_of
falloff-again (Linear n) = rw (zero-is-zero false (pos 0)) refl
falloff-again (PitchSpeed n) = rw (some-not-zero false 0 (pos 0)) refl

flag-again : (b : Bool) → is_set (flag_number b) ≡ b
unfolding is_set flag_number
flag-again true = rw (some-not-zero false 0 (pos 0)) refl
flag-again false = rw (zero-is-zero false (pos 0)) refl

flags-again : (bs : List Bool) → length bs ≡ 8 → slots (λ (k : ℕ). is_set (flag_number (flag_at bs k))) ≡ bs
flags-again bs e = ap (λ (f : Bool → Bool). slots (λ (k : ℕ). f (flag_at bs k))) (λ i b. flag-again b i) ∙ slots-again false bs e

vecs-again : (vs : List Vec3) → length vs ≡ 8 → slots (λ (k : ℕ). slot_vec vs k) ≡ vs
vecs-again vs e = slots-again (vec nan nan nan) vs e

pub airframe-again : (a : Airframe)
    → length a.motors.used ≡ 8
    → length a.motors.torque_per_thrust_m ≡ 8
    → length a.weights ≡ 8
    → length a.lift.motors.used ≡ 8
    → length a.lift.motors.torque_per_thrust_m ≡ 8
    → airframe_in (airframe_numbers a) ≡ a
unfolding airframe_in airframe_with group_in airframe_numbers airframe_number lift_number list_of list_from numbers_in number_at motor_layout_of
    lift_layout_of numbers_of base_numbers coefficient_numbers wash_numbers lift_numbers flags_in vecs_in vec_in vecs_number axis_of
airframe-again a u t w u' t' = parts ∙ of-numbers a kind (falloff-again a.model.thrust_falloff)
  where
    kind : ℕ
    kind = kind_of (kind_number a.model.thrust_falloff)

    motors : MotorGroup → List Bool → List Vec3 → MotorGroup
    motors g bs vs = record { layout = g.layout; time_constant_s = g.time_constant_s; used = bs; torque_per_thrust_m = vs }

    parts : airframe_in (airframe_numbers a) ≡ airframe_of (numbers_of a) kind a.wash_present a.lift_present a.motors a.weights a.lift.motors
    parts = λ i.
        airframe_of (numbers_of a) kind (flag-again a.wash_present i) (flag-again a.lift_present i)
        (motors a.motors (flags-again a.motors.used u i) (vecs-again a.motors.torque_per_thrust_m t i))
        (vecs-again a.weights w i)
        (motors a.lift.motors (flags-again a.lift.motors.used u' i) (vecs-again a.lift.motors.torque_per_thrust_m t' i))

-- An airframe and its reflection have one refused place; and the reflection by flipping sign bits is one. Assumes nothing.
use Prim.Native.Nat.{ℕ}
use lib.Dec.{eqb}
use lib.Ieee.{Float}
use mathlib.Core.Bool.{cond}
use mathlib.Core.List.{List}
use mathlib.Core.Path.{◌≡◌, ap, refl}
use Rattle.float.specs.Notation.{rounded}
use Rattle.mixers.proofs.Reflected.{reflect-axes}
use Rattle.mixers.specs.Reflection.{AxesRel}
use Rattle.motors.proofs.Mirror.{reflect-group}
use Rattle.quadplane_model.proofs.Mirror.{reflect-rotors}
use Rattle.ordered.proofs.Ordered.{fail-same}
use Rattle.vector.proofs.Mirror.{vec-inside-is}
use Rattle.vector.specs.declared.Vec3.{Vec3}
use Rattle.airframe.specs.Acceptance.{first_refused, lift_torques_outside, lowest_place, refused_place, slot_vec_inside, vectors_outside}
use Rattle.airframe.specs.Numbers.{base_numbers, lift_numbers, numbers_of}
use Rattle.airframe.specs.Reflection.{AirframeRel, reflect_airframe}
use Rattle.airframe.specs.declared.Airframe.{Airframe}

vectors-outside-is : (vs vs' : List Vec3) (limit : Float) (place : ℕ) → AxesRel vs vs' → vectors_outside limit place vs' ≡ vectors_outside limit place vs
unfolding vectors_outside slot_vec_inside
vectors-outside-is vs vs' limit place h = ap (λ (n : ℕ). cond (eqb n 0) 0 place) (fail-same 0 8 (λ k. vec-inside-is limit (h k)))

pub refused-place-is : {a a' : Airframe} → AirframeRel a a' → refused_place a' ≡ refused_place a
unfolding refused_place lowest_place first_refused lift_torques_outside numbers_of base_numbers lift_numbers
refused-place-is {a} {a'} h =
    rw (
      h.model,
      h.motors.layout,
      h.motors.time-constant,
      h.wash-present,
      h.wash,
      vectors-outside-is a.motors.torque_per_thrust_m a'.motors.torque_per_thrust_m (rounded 100 1) 50 h.motors.torque,
      vectors-outside-is a.weights a'.weights (rounded 101 1) 51 h.weight,
      h.lift-present,
      h.lift.motors.layout,
      h.lift.motors.time-constant,
      h.lift.drag,
      vectors-outside-is a.lift.motors.torque_per_thrust_m a'.lift.motors.torque_per_thrust_m (rounded 100 1) 58 h.lift.motors.torque,
    )

-- the reflection by flipping sign bits is one
pub reflect-airframe : (a : Airframe) → AirframeRel a (reflect_airframe a)
unfolding reflect_airframe
reflect-airframe a = record {
  model = refl;
  wash-present = refl;
  wash = refl;
  motors = reflect-group a.motors;
  weight = reflect-axes a.weights;
  lift-present = refl;
  lift = reflect-rotors a.lift;
}

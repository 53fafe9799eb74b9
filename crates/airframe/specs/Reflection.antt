-- The reflection of an airframe (01, "Reflection negates"; 02, 5): both groups' torques and the weights are negated in roll and yaw; all
-- else stays. And what it is for one airframe to be the other's reflection as numbers. Definitions only.
use Rattle.std.specs.Prelude.{◌≡◌}
use Rattle.mixers.specs.Reflection.{AxesRel, reflect_axes}
use Rattle.motors.specs.Reflection.{GroupRel, reflect_group}
use Rattle.quadplane_model.specs.Lift.{RotorsRel, reflect_rotors}
use Rattle.airframe.specs.declared.Airframe.{Airframe}

unfoldable pub reflect_airframe : Airframe → Airframe
reflect_airframe a = record {
  model = a.model;
  wash_present = a.wash_present;
  wash = a.wash;
  motors = reflect_group a.motors;
  weights = reflect_axes a.weights;
  lift_present = a.lift_present;
  lift = reflect_rotors a.lift;
}

pub record AirframeRel (a a' : Airframe) : Type 0 where
  pub model : a'.model ≡ a.model
  pub wash-present : a'.wash_present ≡ a.wash_present
  pub wash : a'.wash ≡ a.wash
  pub motors : GroupRel a.motors a'.motors
  pub weight : AxesRel a.weights a'.weights
  pub lift-present : a'.lift_present ≡ a.lift_present
  pub lift : RotorsRel a.lift a'.lift

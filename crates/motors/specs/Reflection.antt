-- The reflection of a group of motors (01, "Reflection negates": roll and yaw of each torque), and what it is for one group to be the
-- other's reflection as numbers. Definitions only.
use Rattle.std.specs.Prelude.{◌≡◌}
use Rattle.mixers.specs.Reflection.{AxesRel, reflect_axes}
use Rattle.motors.specs.declared.MotorGroup.{MotorGroup}

unfoldable pub reflect_group : MotorGroup → MotorGroup
reflect_group g = record {
  layout = g.layout;
  time_constant_s = g.time_constant_s;
  used = g.used;
  torque_per_thrust_m = reflect_axes g.torque_per_thrust_m;
}

pub record GroupRel (g g' : MotorGroup) : Type 0 where
  pub layout : g'.layout ≡ g.layout
  pub time-constant : g'.time_constant_s ≡ g.time_constant_s
  pub used : g'.used ≡ g.used
  pub torque : AxesRel g.torque_per_thrust_m g'.torque_per_thrust_m

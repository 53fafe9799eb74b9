-- What the code's promises name besides the definitions: the constants of the lags by themselves, from which a step's factors are made.
-- Nothing here needs believing.
use Rattle.airframe.specs.declared.Airframe.{Airframe}
use Rattle.airframe.specs.declared.LagConstants.{LagConstants}

unfoldable pub lag_constants_of : Airframe → LagConstants
lag_constants_of a = record {
  motor_s = a.motors.time_constant_s;
  servo_s = a.model.servo_time_constant_s;
  lift_present = a.lift_present;
  lift_s = a.lift.motors.time_constant_s;
}

-- `motors::MotorGroup::put_lift` meets its contract. Assumes nothing.
use Rattle.motors.specs.Motor.{put_lift_at, put_lift_row}
use Rattle.motors.proofs.MotorGroup.put_lift.Goals as goal

pub returns-in-Motor : goal.returns-in-Motor
unfolding put_lift_row put_lift_at
returns-in-Motor c = simp c.in-Motor.is

pub returns-in-Servo : goal.returns-in-Servo
unfolding put_lift_row put_lift_at
returns-in-Servo c = simp c.in-Servo.is

pub returns-in-Lift : goal.returns-in-Lift
unfolding put_lift_row put_lift_at
returns-in-Lift c = simp (c.put_motor.ensures, c.torque.ensures, c.in-Lift.is)

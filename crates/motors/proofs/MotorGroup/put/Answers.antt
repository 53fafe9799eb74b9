-- `motors::MotorGroup::put` meets its contract. Assumes nothing.
use Rattle.motors.specs.Motor.{put_motor_at, put_motor_row}
use Rattle.motors.proofs.MotorGroup.put.Goals as goal

pub returns-in-Motor : goal.returns-in-Motor
unfolding put_motor_row put_motor_at
returns-in-Motor c = simp (c.put_motor.ensures, c.torque.ensures, c.in-Motor.is)

pub returns-in-Servo : goal.returns-in-Servo
unfolding put_motor_row put_motor_at
returns-in-Servo c = simp c.in-Servo.is

pub returns-in-Lift : goal.returns-in-Lift
unfolding put_motor_row put_motor_at
returns-in-Lift c = simp c.in-Lift.is

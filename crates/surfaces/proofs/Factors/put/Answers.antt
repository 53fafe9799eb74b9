-- `surfaces::Factors::put` meets its contract. Assumes nothing.
use Rattle.surfaces.specs.Surface.{put_servo_at, put_servo_row}
use Rattle.surfaces.proofs.Factors.put.Goals as goal

pub returns-in-Servo : goal.returns-in-Servo
unfolding put_servo_row put_servo_at
returns-in-Servo c = simp (c.put_servo.ensures, c.factors.ensures, c.in-Servo.is)

pub returns-in-Motor : goal.returns-in-Motor
unfolding put_servo_row put_servo_at
returns-in-Motor c = simp c.in-Motor.is

pub returns-in-Lift : goal.returns-in-Lift
unfolding put_servo_row put_servo_at
returns-in-Lift c = simp c.in-Lift.is

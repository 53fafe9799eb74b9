-- `motors::MotorLayout::motor_thrust_n` meets its contract. Assumes nothing.
use Rattle.motors.specs.Motor.{thrust_of}
use Rattle.motors.proofs.MotorLayout.motor_thrust_n.Goals as goal

pub returns : goal.returns
unfolding thrust_of
returns g c = simp (c.share_left.ensures, c.thrust_fraction-share.ensures)

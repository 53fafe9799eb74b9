-- `motors::MotorLayout::torque` meets its contract. Assumes nothing.
use Rattle.motors.specs.Motor.{torque_of}
use Rattle.motors.proofs.MotorLayout.torque.Goals as goal

pub returns : goal.returns
unfolding torque_of
returns c = simp c.new.ensures

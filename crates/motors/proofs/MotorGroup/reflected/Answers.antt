-- `motors::MotorGroup::reflected` meets its contract. Assumes nothing.
use Rattle.motors.specs.Reflection.{reflect_group}
use Rattle.motors.proofs.MotorGroup.reflected.Goals as goal

pub returns : goal.returns
unfolding reflect_group
returns c = simp c.reflected_axes-reflected.ensures

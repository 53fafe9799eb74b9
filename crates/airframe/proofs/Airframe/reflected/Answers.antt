-- `airframe::Airframe::reflected` meets its contract. Assumes nothing.
use Rattle.airframe.specs.Reflection.{reflect_airframe}
use Rattle.airframe.proofs.Airframe.reflected.Goals as goal

pub returns : goal.returns
unfolding reflect_airframe
returns c = simp (c.reflected-reflected_lift.ensures, c.reflected_axes-reflected_weights.ensures, c.reflected-reflected_motors.ensures)

-- `quadplane_model::LiftRotors::reflected` meets its contract. Assumes nothing.
use Rattle.quadplane_model.specs.Lift.{reflect_rotors}
use Rattle.quadplane_model.proofs.LiftRotors.reflected.Goals as goal

pub returns : goal.returns
unfolding reflect_rotors
returns c = simp c.reflected-reflected.ensures

-- `quadplane_model::LiftRotors::at` meets its contract. Assumes nothing.
use lib.Ieee.{of_bits}
use mathlib.Core.Path.{refl}
use Rattle.quadplane_model.specs.Lift.{rotors_at}
use Rattle.quadplane_model.proofs.LiftRotors.at.Goals as goal

pub returns : goal.returns
unfolding rotors_at of_bits
returns c = refl

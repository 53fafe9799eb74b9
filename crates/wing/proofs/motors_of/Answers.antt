-- `wing::motors_of` meets its contract. Assumes nothing.
use mathlib.Core.Path.{refl}
use Rattle.wing.specs.Loads.{motors_for}
use Rattle.wing.proofs.motors_of.Goals as goal

pub returns : goal.returns
unfolding motors_for
returns c = refl

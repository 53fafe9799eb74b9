-- `wing::surfaces_of` meets its contract. Assumes nothing.
use mathlib.Core.Path.{refl}
use Rattle.wing.specs.Loads.{surfaces_for}
use Rattle.wing.proofs.surfaces_of.Goals as goal

pub returns : goal.returns
unfolding surfaces_for
returns c = refl

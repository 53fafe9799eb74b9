-- `wing::density_for` meets its contract. Assumes nothing.
use Rattle.wing.specs.Tick.{density_for}
use Rattle.wing.proofs.density_for.Goals as goal

pub returns : goal.returns
unfolding density_for
returns c = c.density_with.ensures

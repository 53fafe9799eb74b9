-- `wing::begin` meets its contract. Assumes nothing.
use Rattle.wing.proofs.begin.Goals as goal

pub returns : goal.returns
returns c = simp (c.lag_factors_from.ensures, c.lag_constants.ensures)

-- `wing::lag_factors_from` meets its contract. Assumes nothing.
use Rattle.wing.specs.Promises.{lag_factors_from}
use Rattle.wing.proofs.lag_factors_from.Goals as goal

pub returns : goal.returns
unfolding lag_factors_from
returns c = simp (c.lift_factor.ensures, c.factor-2.ensures, c.factor.ensures, c.to_bits.ensures)

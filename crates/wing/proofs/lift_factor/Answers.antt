-- `wing::lift_factor` meets its contract. Assumes nothing.
use lib.Ieee.{of_bits}
use Rattle.wing.specs.Promises.{lift_factor}
use Rattle.wing.proofs.lift_factor.Goals as goal

pub returns-then-constants : goal.returns-then-constants
unfolding lift_factor
returns-then-constants c = simp (c.factor.ensures, c.if-constants.true)

pub returns : goal.returns
unfolding lift_factor of_bits
returns c = simp c.if-constants.false

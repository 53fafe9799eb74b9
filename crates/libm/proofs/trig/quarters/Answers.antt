-- `libm::trig::quarters` meets its contract. Assumes nothing.
use lib.Ieee.{of_bits, round}
use Rattle.libm.specs.Promises.{whole_quarters}
use Rattle.libm.proofs.trig.quarters.Goals as goal

pub returns-then-x : goal.returns-then-x
unfolding whole_quarters of_bits round
returns-then-x c = simp (c.whole_part.ensures, c.if-x.true)

pub returns : goal.returns
unfolding whole_quarters of_bits round
returns c = simp (c.whole_part-2.ensures, c.if-x.false)

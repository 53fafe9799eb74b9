-- `arrays::kind_of` meets its contract. Assumes nothing.
use Rattle.arrays.specs.Airframe.{kind_of}
use lib.Ieee.{of_bits, round}
use Rattle.arrays.proofs.kind_of.Goals as goal

pub returns-then-x : goal.returns-then-x
unfolding kind_of of_bits round
returns-then-x c = simp c.if-x.true

pub returns-else-x : goal.returns-else-x
unfolding kind_of of_bits round
returns-else-x c = simp c.if-x.false

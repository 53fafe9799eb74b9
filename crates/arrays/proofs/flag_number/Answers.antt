-- `arrays::flag_number` meets its contract. Assumes nothing.
use Rattle.arrays.specs.Airframe.{flag_number}
use lib.Ieee.{of_bits, round}
use Rattle.arrays.proofs.flag_number.Goals as goal

pub returns-then-b : goal.returns-then-b
unfolding flag_number of_bits round
returns-then-b c = simp c.if-b.true

pub returns-else-b : goal.returns-else-b
unfolding flag_number of_bits round
returns-else-b c = simp c.if-b.false

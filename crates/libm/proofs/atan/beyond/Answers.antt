-- `libm::atan::beyond` meets its contract. Assumes nothing.
use lib.Ieee.{of_bits, round}
use Rattle.libm.specs.Atan.{beyond}
use Rattle.libm.proofs.atan.beyond.Goals as goal

pub returns-then-x : goal.returns-then-x
unfolding beyond of_bits round
returns-then-x c = simp c.if-x.true

pub returns-else-x : goal.returns-else-x
unfolding beyond of_bits round
returns-else-x c = simp c.if-x.false

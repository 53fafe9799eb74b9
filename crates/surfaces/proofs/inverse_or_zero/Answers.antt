-- `surfaces::inverse_or_zero` meets its contract. Assumes nothing.
use lib.Ieee.{of_bits}
use Rattle.surfaces.specs.Surface.{inverse_or_zero}
use Rattle.surfaces.proofs.inverse_or_zero.Goals as goal

pub returns-then-sum : goal.returns-then-sum
unfolding inverse_or_zero of_bits
returns-then-sum c = simp c.if-sum.true

pub returns-else-sum : goal.returns-else-sum
unfolding inverse_or_zero of_bits
returns-else-sum c = simp c.if-sum.false

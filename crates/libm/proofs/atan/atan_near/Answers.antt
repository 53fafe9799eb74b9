-- `libm::atan::atan_near` meets its contract. Assumes nothing.
use lib.Ieee.{of_bits, round}
use Rattle.libm.specs.Atan.{atan_near}
use Rattle.libm.proofs.atan.atan_near.Goals as goal

pub returns-then-a : goal.returns-then-a
unfolding atan_near of_bits round
returns-then-a c = simp (c.atan_poly.ensures, c.if-a.true)

pub returns : goal.returns
unfolding atan_near of_bits round
returns c = simp (c.atan_poly-2.ensures, c.if-a.false)

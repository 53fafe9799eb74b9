-- `aero::stall_blend` meets its contract. Assumes nothing.
use lib.Ieee.{of_bits, round}
use Rattle.book.specs.Equations as book
use Rattle.aero.specs.Coefficients.{exponent, stall_blend}
use Rattle.aero.proofs.stall_blend.Goals as goal

pub returns : goal.returns
unfolding stall_blend exponent book.blend of_bits round
returns c = simp (c.exponent-past_negative.ensures, c.exponent-past_positive.ensures)

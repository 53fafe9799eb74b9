-- `aero::exponent` meets its contract. Assumes nothing.
use lib.Ieee.{neg, of_bits, round}
use Rattle.aero.specs.Coefficients.{exponent, hold}
use Rattle.aero.proofs.exponent.Goals as goal

pub returns : goal.returns
unfolding exponent hold of_bits neg round
returns c = simp (c.expf_with.ensures, c.clamp.ensures)

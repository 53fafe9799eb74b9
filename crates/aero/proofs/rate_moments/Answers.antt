-- `aero::rate_moments` meets its contract. Assumes nothing.
use lib.Ieee.{of_bits, round}
use Rattle.aero.specs.Wrench.{rate_moments}
use Rattle.aero.proofs.rate_moments.Goals as goal

pub returns : goal.returns
unfolding rate_moments of_bits round
returns c = simp c.new.ensures

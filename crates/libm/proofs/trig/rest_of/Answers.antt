-- `libm::trig::rest_of` meets its contract. Assumes nothing.
use lib.Ieee.{of_bits, round}
use mathlib.Core.Path.{refl}
use Rattle.libm.specs.Trig.{rest_of}
use Rattle.libm.proofs.trig.rest_of.Goals as goal

pub returns : goal.returns
unfolding rest_of of_bits round
returns c = refl

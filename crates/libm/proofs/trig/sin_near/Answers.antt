-- `libm::trig::sin_near` meets its contract. Assumes nothing.
use lib.Ieee.{neg, of_bits, round}
use mathlib.Core.Path.{refl}
use Rattle.libm.specs.Trig.{sin_near}
use Rattle.libm.proofs.trig.sin_near.Goals as goal

pub returns : goal.returns
unfolding sin_near neg of_bits round
returns c = refl

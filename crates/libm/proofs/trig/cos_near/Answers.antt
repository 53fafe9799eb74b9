-- `libm::trig::cos_near` meets its contract. Assumes nothing.
use lib.Ieee.{neg, of_bits, round}
use mathlib.Core.Path.{refl}
use Rattle.libm.specs.Trig.{cos_near}
use Rattle.libm.proofs.trig.cos_near.Goals as goal

pub returns : goal.returns
unfolding cos_near neg of_bits round
returns c = refl

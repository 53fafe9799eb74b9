-- `libm::log::near` meets its contract. Assumes nothing.
use lib.Ieee.{of_bits, round}
use mathlib.Core.Path.{refl}
use Rattle.libm.specs.Exp.{horner}
use Rattle.libm.specs.Log.{ln_near, ratio, log_series}
use Rattle.libm.proofs.log.near.Goals as goal

pub returns : goal.returns
unfolding ln_near ratio log_series horner of_bits round
returns c = refl

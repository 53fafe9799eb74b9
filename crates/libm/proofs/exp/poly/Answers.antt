-- `libm::exp::poly` meets its contract. Assumes nothing.
use lib.Ieee.{of_bits, round}
use mathlib.Core.Path.{refl}
use Rattle.libm.specs.Exp.{horner, poly, exp_series}
use Rattle.libm.proofs.exp.poly.Goals as goal

pub returns : goal.returns
unfolding poly exp_series horner of_bits round
returns c = refl

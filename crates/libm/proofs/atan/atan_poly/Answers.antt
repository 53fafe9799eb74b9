-- `libm::atan::atan_poly` meets its contract. Assumes nothing.
use lib.Ieee.{of_bits, round}
use mathlib.Core.Path.{refl}
use Rattle.libm.specs.Atan.{atan_poly}
use Rattle.libm.proofs.atan.atan_poly.Goals as goal

pub returns : goal.returns
unfolding atan_poly of_bits round
returns c = refl

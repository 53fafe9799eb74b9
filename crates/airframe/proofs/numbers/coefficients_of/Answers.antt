-- `airframe::numbers::coefficients_of` meets its contract. Assumes nothing.
use mathlib.Core.Path.{refl}
use Rattle.airframe.specs.FromNumbers.{coefficients_of}
use Rattle.airframe.proofs.numbers.coefficients_of.Goals as goal

pub returns : goal.returns
unfolding coefficients_of
returns c = refl

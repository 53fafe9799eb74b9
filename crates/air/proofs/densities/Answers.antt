-- `air::densities` meets its contract: each of the 61 entries is the definition's digits, rounded once. Assumes nothing.
use lib.Ieee.{of_bits, round}
use mathlib.Core.Path.{refl}
use Rattle.air.specs.Density.{densities, ten_thousandths}
use Rattle.air.proofs.densities.Goals as goal

pub invariant_of-result : goal.invariant_of-result
unfolding densities ten_thousandths of_bits round
invariant_of-result c = record { is_atmosphere = refl }

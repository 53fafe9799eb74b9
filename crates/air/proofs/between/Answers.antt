-- `air::between` meets its contract. Assumes nothing.
use Prim.Native.Nat.{◌+◌, suc, ℕ}
use lib.Ieee.{of_bits, round}
use mathlib.Core.Path.{◌≡◌}
use native.Mathlib.Omega.{arith}
use Rattle.air.specs.Density.{between, density_of}
use Rattle.air.proofs.between.Goals as goal

plus_one : (n : ℕ) → n + 1 ≡ suc n
plus_one n = omega arith

pub returns : goal.returns
unfolding between density_of of_bits round
returns c =
    let b = c in
    rw (b.requires.row_height, b.args.densities.now.is_atmosphere, plus_one b.args.row)

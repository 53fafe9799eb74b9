-- `air::row_height` meets its contract: a hundred times a row is an integer that a float holds. Assumes nothing.
use Prim.Native.Nat.{◌*◌, ◌<◌, ℕ}
use lib.Dec.{T, le→leb}
use lib.Ieee.{binary32, in_float, of_bits, round}
use lib.IntN.{pos}
use native.Mathlib.Omega.{arith}
use Rattle.air.proofs.Rows.{height-made}
use Rattle.air.specs.Density.{row_count}
use Rattle.air.proofs.row_height.Goals as goal

held : (n : ℕ) → n < row_count → T (in_float binary32 (pos (n * 100)))
unfolding in_float
held n l = le→leb (n * 100) 16777216 (omega arith)

pub returns : goal.returns
unfolding of_bits round
returns c = height-made c.args.row c.requires

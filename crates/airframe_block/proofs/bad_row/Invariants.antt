-- `airframe_block::bad_row` meets its contract. Assumes nothing.
use Prim.Native.Nat.{◌-◌}
use mathlib.Core.Path.{◌≡◌}
use Rattle.mixers.specs.Rows.{live_of}
use Rattle.ordered.specs.Ordered.{first_fail}
use Rattle.airframe_block.specs.Block.{bad_row, row_fits_at}
use Rattle.airframe_block.proofs.bad_row.Given as goal

abbrev pub invariant-loop-k : goal.invariant-loop-k
invariant-loop-k l = bad_row l.fn.rows ≡ first_fail (row_fits_at l.fn.rows.rows) l.k (live_of l.fn.rows - l.k)

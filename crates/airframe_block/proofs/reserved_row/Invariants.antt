-- `airframe_block::reserved_row` meets its contract. Assumes nothing.
use Prim.Native.Nat.{◌-◌}
use mathlib.Core.Path.{◌≡◌}
use Rattle.ordered.specs.Ordered.{first_fail}
use Rattle.airframe_block.specs.Block.{row_clear}
use Rattle.airframe_block.proofs.reserved_row.Given as goal

abbrev pub invariant-loop-k : goal.invariant-loop-k
invariant-loop-k l = first_fail (row_clear l.s l.lift l.start) 0 l.fn.count ≡ first_fail (row_clear l.s l.lift l.start) l.k (l.fn.count - l.k)

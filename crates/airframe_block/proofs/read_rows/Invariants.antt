-- `airframe_block::read_rows` meets its contract. Assumes nothing.
use mathlib.Core.Path.{◌≡◌}
use Rattle.airframe_block.specs.Block.{put_rows}
use Rattle.airframe_block.proofs.read_rows.Given as goal

abbrev pub invariant-loop-k : goal.invariant-loop-k
invariant-loop-k l = l.row-items ≡ put_rows l.s l.start l.initial.row-items l.k

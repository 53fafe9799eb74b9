-- `airframe_block::read_present` meets its contract. The invariant: the first k numbers are put. Assumes nothing.
use mathlib.Core.Path.{◌≡◌}
use Rattle.airframe_block.specs.Block.{put_numbers}
use Rattle.airframe_block.proofs.read_present.Given as goal

abbrev pub invariant-loop-k : goal.invariant-loop-k
invariant-loop-k l = l.out ≡ put_numbers l.s l.at l.initial.out l.first l.k

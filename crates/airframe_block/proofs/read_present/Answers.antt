-- `airframe_block::read_present` meets its contract. The invariant: the first k numbers are put. Assumes nothing.
use mathlib.Core.Path.{◌∙◌, ap, refl}
use native.Mathlib.Nat.{le_antisymm}
use Rattle.block_parts.specs.Parts.{float_at}
use Rattle.airframe_block.specs.Block.{put_numbers}
use Rattle.airframe_block.proofs.Segments.{numbers_more}
use Rattle.airframe_block.proofs.read_present.Goals as goal

pub loop-k-init : goal.loop-k-init
unfolding put_numbers
loop-k-init c = refl

pub loop-k-preserved : goal.loop-k-preserved
unfolding float_at
loop-k-preserved c = numbers_more _ _ _ _ c.loop-k.k c.loop-k.out c.read.result c.loop-k.invariant c.read.ensures

pub returns : goal.returns
returns c = c.loop-k.invariant ∙ ap (put_numbers _ _ _ _) (le_antisymm c.loop-k.auto.k-end c.loop-k-test.false)

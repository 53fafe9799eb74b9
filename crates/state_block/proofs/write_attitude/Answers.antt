-- `state_block::write_attitude` meets its contract. Assumes nothing.
use Rattle.block_parts.specs.Parts.{put_float}
use Rattle.state_block.specs.Layout.{put_attitude}
use Rattle.state_block.proofs.write_attitude.Goals as goal

pub returns : goal.returns
unfolding put_attitude put_float
returns c =
    simp (
      c.write-4.ensures,
      c.write-3.ensures,
      c.write-2.ensures,
      c.write.ensures,
    )

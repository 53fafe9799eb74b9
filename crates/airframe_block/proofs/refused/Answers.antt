-- `airframe_block::refused` meets its contract. Assumes nothing.
use Rattle.airframe_block.specs.Block.{refused_airframe}
use Rattle.airframe_block.proofs.refused.Goals as goal

pub returns : goal.returns
unfolding refused_airframe
returns c = simp c.zero.ensures

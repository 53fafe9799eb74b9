-- `airframe_block::header_of` meets its contract. Assumes nothing.
use Rattle.airframe_block.specs.Block.{header_of}
use Rattle.airframe_block.proofs.header_of.Goals as goal

pub returns : goal.returns
unfolding header_of
returns c = simp c.from.ensures

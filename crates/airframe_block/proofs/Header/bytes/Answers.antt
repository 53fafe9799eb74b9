-- `airframe_block::Header::bytes` meets its contract. Assumes nothing.
use Rattle.airframe_block.specs.Block.{bytes_of}
use Rattle.airframe_block.proofs.Header.bytes.Goals as goal

pub returns : goal.returns
unfolding bytes_of
returns c = simp c.rows_at-start.ensures.value

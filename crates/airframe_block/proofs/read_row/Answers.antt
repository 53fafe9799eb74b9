-- `airframe_block::read_row` meets its contract. Assumes nothing.
use Rattle.block_parts.specs.Parts.{float_at}
use Rattle.airframe_block.specs.Block.{row_from}
use Rattle.airframe_block.proofs.read_row.Goals as goal

pub returns : goal.returns
unfolding row_from float_at
returns c = simp (c.read-yaw.ensures, c.read-pitch.ensures, c.read-roll.ensures, c.slot_of-slot.ensures)

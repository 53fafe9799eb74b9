-- `state_block::read_attitude` meets its contract. Assumes nothing.
use Rattle.block_parts.specs.Parts.{float_at}
use Rattle.state_block.specs.Layout.{attitude_from}
use Rattle.state_block.proofs.read_attitude.Goals as goal

pub returns : goal.returns
unfolding attitude_from float_at
returns c = simp (c.read-k.ensures, c.read-j.ensures, c.read-i.ensures, c.read-w.ensures)

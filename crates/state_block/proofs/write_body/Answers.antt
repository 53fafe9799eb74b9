-- `state_block::write_body` meets its contract. Assumes nothing.
use Rattle.state_block.specs.Layout.{put_body}
use Rattle.state_block.proofs.write_body.Goals as goal

pub returns : goal.returns
unfolding put_body
returns c = cc

-- `state_block::refused` meets its contract. Assumes nothing.
use Rattle.state_block.specs.Layout.{refused_state}
use Rattle.state_block.proofs.refused.Goals as goal

pub returns : goal.returns
unfolding refused_state
returns c = simp c.zero.ensures

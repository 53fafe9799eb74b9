-- `state_block::read_full_state` meets its contract. Assumes nothing.
use borrow.Author.Tests.{eq-eqb, ne_eqb}
use Rattle.state_block.specs.Layout.{read_full_of}
use Rattle.state_block.proofs.read_full_state.Goals as goal

pub returns-then-s-eq-STATE_BYTES : goal.returns-then-s-eq-STATE_BYTES
unfolding read_full_of
returns-then-s-eq-STATE_BYTES c = simp (c.read_state.ensures, eq-eqb _ _ c.if-s-eq-STATE_BYTES.true)

pub returns : goal.returns
unfolding read_full_of
returns c = simp (c.refused.ensures, ne_eqb _ _ c.if-s-eq-STATE_BYTES.false)

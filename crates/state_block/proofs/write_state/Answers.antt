-- `state_block::write_state` meets its contract. Assumes nothing.
use mathlib.Core.Path.{◌∙◌}
use borrow.Author.Tests.{eq-eqb, ne_eqb}
use Rattle.block_parts.specs.Parts.{write_answer}
use Rattle.state_block.specs.Layout.{written_state}
use Rattle.state_block.proofs.write_state.Goals as goal

pub returns-then-lent-ne-STATE_BYTES-clause-s_after : goal.returns-then-lent-ne-STATE_BYTES-clause-s_after
unfolding written_state write_answer
returns-then-lent-ne-STATE_BYTES-clause-s_after c = simp (ne_eqb _ _ c.if-lent-ne-STATE_BYTES.true)

pub returns-then-lent-ne-STATE_BYTES-clause-value : goal.returns-then-lent-ne-STATE_BYTES-clause-value
unfolding written_state write_answer
returns-then-lent-ne-STATE_BYTES-clause-value c = simp (ne_eqb _ _ c.if-lent-ne-STATE_BYTES.true)

pub returns : goal.returns
unfolding written_state write_answer
returns c =
    let s = c in
    record {
      s_after = s.write_flight.ensures ∙ simp (eq-eqb _ _ s.if-lent-ne-STATE_BYTES.false);
      value = simp (eq-eqb _ _ s.if-lent-ne-STATE_BYTES.false);
    }

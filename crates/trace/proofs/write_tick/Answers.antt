-- `trace::write_tick` meets its contract. Assumes nothing.
use mathlib.Core.Path.{◌∙◌}
use borrow.Author.Tests.{eq-eqb, ne_eqb}
use Rattle.block_parts.specs.Parts.{write_answer}
use Rattle.trace.specs.Tick.{written_tick}
use Rattle.trace.proofs.write_tick.Goals as goal

pub returns-then-lent-ne-TICK_BYTES-clause-s_after : goal.returns-then-lent-ne-TICK_BYTES-clause-s_after
unfolding written_tick write_answer
returns-then-lent-ne-TICK_BYTES-clause-s_after c = simp (ne_eqb _ _ c.if-lent-ne-TICK_BYTES.true)

pub returns-then-lent-ne-TICK_BYTES-clause-value : goal.returns-then-lent-ne-TICK_BYTES-clause-value
unfolding written_tick write_answer
returns-then-lent-ne-TICK_BYTES-clause-value c = simp (ne_eqb _ _ c.if-lent-ne-TICK_BYTES.true)

pub returns : goal.returns
unfolding written_tick write_answer
returns c =
    let s = c in
    record {
      s_after = s.write_tick_at.ensures ∙ simp (eq-eqb _ _ s.if-lent-ne-TICK_BYTES.false);
      value = simp (eq-eqb _ _ s.if-lent-ne-TICK_BYTES.false);
    }

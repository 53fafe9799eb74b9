-- `trace::read_tick_block` meets its contract. Assumes nothing.
use borrow.Author.Tests.{eq-eqb, ne_eqb}
use Rattle.trace.specs.Tick.{read_tick_of}
use Rattle.trace.proofs.read_tick_block.Goals as goal

pub returns-then-n-eq-TICK_BYTES : goal.returns-then-n-eq-TICK_BYTES
unfolding read_tick_of
returns-then-n-eq-TICK_BYTES c = simp (c.read_tick-tick.ensures, eq-eqb _ _ c.if-n-eq-TICK_BYTES.true)

pub returns : goal.returns
unfolding read_tick_of
returns c = simp (c.zero_tick-tick.ensures, ne_eqb _ _ c.if-n-eq-TICK_BYTES.false)

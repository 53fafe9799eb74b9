-- `airframe_block::bits_clear` meets its contract. Assumes nothing.
use borrow.Author.Tests.{eq-eqb, ne_eqb}
use Rattle.airframe_block.specs.Block.{bits_clear}
use Rattle.airframe_block.proofs.bits_clear.Goals as goal

pub returns-then-b-eq0-2 : goal.returns-then-b-eq0-2
unfolding bits_clear
returns-then-b-eq0-2 c = simp (eq-eqb _ _ c.if-b-eq0.true, eq-eqb _ _ c.if-b-eq0-2.true)

pub returns-then-b-eq0-3 : goal.returns-then-b-eq0-3
unfolding bits_clear
returns-then-b-eq0-3 c = simp (eq-eqb _ _ c.if-b-eq0.true, ne_eqb _ _ c.if-b-eq0-2.false, eq-eqb _ _ c.if-b-eq0-3.true)

pub returns-then-b-eq0 : goal.returns-then-b-eq0
unfolding bits_clear
returns-then-b-eq0 c = simp (eq-eqb _ _ c.if-b-eq0.true, ne_eqb _ _ c.if-b-eq0-2.false, ne_eqb _ _ c.if-b-eq0-3.false)

pub returns : goal.returns
unfolding bits_clear
returns c = simp (ne_eqb _ _ c.if-b-eq0.false)

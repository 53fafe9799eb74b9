-- `airframe_block::slot_of` meets its contract. Assumes nothing.
use borrow.Author.Tests.{eq-eqb, ne_eqb}
use Rattle.airframe_block.specs.Block.{slot_of}
use Rattle.airframe_block.proofs.slot_of.Goals as goal

pub returns-then-b-eq0-2 : goal.returns-then-b-eq0-2
unfolding slot_of
returns-then-b-eq0-2 c = simp (eq-eqb _ _ c.if-b-eq0.true, eq-eqb _ _ c.if-b-eq0-2.true)

pub returns-then-b-eq0 : goal.returns-then-b-eq0
unfolding slot_of
returns-then-b-eq0 c = simp (eq-eqb _ _ c.if-b-eq0.true, ne_eqb _ _ c.if-b-eq0-2.false)

pub returns : goal.returns
unfolding slot_of
returns c = simp (ne_eqb _ _ c.if-b-eq0.false)

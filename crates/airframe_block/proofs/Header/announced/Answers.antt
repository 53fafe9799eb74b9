-- `airframe_block::Header::announced` meets its contract. Assumes nothing.
use borrow.Author.Tests.{eq-eqb, le-ltb, lt-ltb, ne_eqb}
use Rattle.airframe_block.specs.Block.{announced_by}
use Rattle.airframe_block.proofs.Header.announced.Goals as goal

pub returns-then-self-ne1 : goal.returns-then-self-ne1
unfolding announced_by
returns-then-self-ne1 c = simp (ne_eqb _ _ c.if-self-ne1.true)

pub returns-then-self-gt1 : goal.returns-then-self-gt1
unfolding announced_by
returns-then-self-gt1 c = simp (lt-ltb _ _ c.if-self-gt1.true, eq-eqb _ _ c.if-self-ne1.false)

pub returns-then-self-ne0 : goal.returns-then-self-ne0
unfolding announced_by
returns-then-self-ne0 c =
    simp (
      ne_eqb _ _ c.if-self-ne0.true,
      le-ltb _ _ c.if-self-gt1.false,
      eq-eqb _ _ c.if-self-ne1.false,
    )

pub returns-then-self-gt-MOST_ROWS : goal.returns-then-self-gt-MOST_ROWS
unfolding announced_by
returns-then-self-gt-MOST_ROWS c =
    simp (
      lt-ltb _ _ c.if-self-gt-MOST_ROWS.true,
      eq-eqb _ _ c.if-self-ne0.false,
      le-ltb _ _ c.if-self-gt1.false,
      eq-eqb _ _ c.if-self-ne1.false,
    )

pub returns : goal.returns
unfolding announced_by
returns c =
    simp (
      c.bytes.ensures,
      le-ltb _ _ c.if-self-gt-MOST_ROWS.false,
      eq-eqb _ _ c.if-self-ne0.false,
      le-ltb _ _ c.if-self-gt1.false,
      eq-eqb _ _ c.if-self-ne1.false,
    )

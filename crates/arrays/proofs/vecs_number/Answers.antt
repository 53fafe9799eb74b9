-- `arrays::vecs_number` meets its contract. Assumes nothing.
use borrow.Author.Tests.{eq-eqb, ne_eqb}
use Rattle.arrays.specs.Airframe.{axis_of, vecs_number}
use Rattle.arrays.proofs.vecs_number.Goals as goal

pub returns-then-axis-eq0 : goal.returns-then-axis-eq0
unfolding vecs_number axis_of
returns-then-axis-eq0 c = simp (eq-eqb _ _ c.if-axis-eq0.true)

pub returns-then-axis-eq1 : goal.returns-then-axis-eq1
unfolding vecs_number axis_of
returns-then-axis-eq1 c = simp (eq-eqb _ _ c.if-axis-eq1.true, ne_eqb _ _ c.if-axis-eq0.false)

pub returns : goal.returns
unfolding vecs_number axis_of
returns c = simp (ne_eqb _ _ c.if-axis-eq1.false, ne_eqb _ _ c.if-axis-eq0.false)

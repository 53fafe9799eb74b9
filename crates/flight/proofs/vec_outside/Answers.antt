-- `flight::vec_outside` meets its contract. Assumes nothing.
use borrow.Author.Rules.{rules}
use Rattle.flight.specs.Envelope.{vec_outside}
use Rattle.ordered.specs.Ordered.{unless_zero}
use Rattle.flight.proofs.vec_outside.Goals as goal

pub returns-then-inside-3-clause-value : goal.returns-then-inside-3-clause-value
unfolding vec_outside unless_zero
returns-then-inside-3-clause-value c = simp (
  simp (c.inside-then-inside-2.ensures, c.inside-then-inside.ensures, c.inside.ensures)
      at c.if-inside-3.true,
  c.inside-then-inside-2.ensures,
  simp (c.inside-then-inside.ensures, c.inside.ensures) at c.if-inside-2.true,
  c.inside-then-inside.ensures,
  simp c.inside.ensures at c.if-inside.true,
  c.inside.ensures,
)

pub returns-then-inside-3-clause-upper_bound : goal.returns-then-inside-3-clause-upper_bound
unfolding vec_outside unless_zero
returns-then-inside-3-clause-upper_bound c = search rules

pub returns-then-inside-2-clause-value : goal.returns-then-inside-2-clause-value
unfolding vec_outside unless_zero
returns-then-inside-2-clause-value c = simp (
  simp (c.inside-then-inside-2.ensures, c.inside-then-inside.ensures, c.inside.ensures)
      at c.if-inside-3.false,
  c.inside-then-inside-2.ensures,
  simp (c.inside-then-inside.ensures, c.inside.ensures) at c.if-inside-2.true,
  c.inside-then-inside.ensures,
  simp c.inside.ensures at c.if-inside.true,
  c.inside.ensures,
)

pub returns-then-inside-2-clause-upper_bound : goal.returns-then-inside-2-clause-upper_bound
unfolding vec_outside unless_zero
returns-then-inside-2-clause-upper_bound c = search rules

pub returns-then-inside-clause-value : goal.returns-then-inside-clause-value
unfolding vec_outside unless_zero
returns-then-inside-clause-value c = simp (
  simp (c.inside-then-inside.ensures, c.inside.ensures) at c.if-inside-2.false,
  c.inside-then-inside.ensures,
  simp c.inside.ensures at c.if-inside.true,
  c.inside.ensures,
)

pub returns-then-inside-clause-upper_bound : goal.returns-then-inside-clause-upper_bound
unfolding vec_outside unless_zero
returns-then-inside-clause-upper_bound c = search rules

pub returns-clause-value : goal.returns-clause-value
unfolding vec_outside unless_zero
returns-clause-value c = simp (simp c.inside.ensures at c.if-inside.false, c.inside.ensures)

pub returns-clause-upper_bound : goal.returns-clause-upper_bound
unfolding vec_outside unless_zero
returns-clause-upper_bound c = search rules

-- `wing::unless_departed` meets its contract. Assumes nothing.
use Rattle.wing.specs.Tick.{unless_departed}
use Rattle.wing.proofs.unless_departed.Goals as goal

pub returns-then-is_inside : goal.returns-then-is_inside
unfolding unless_departed
returns-then-is_inside c = simp (simp c.is_inside.ensures at c.if-is_inside.true, c.is_inside.ensures)

pub returns : goal.returns
unfolding unless_departed
returns c = simp (c.refused.ensures, simp c.is_inside.ensures at c.if-is_inside.false, c.is_inside.ensures)

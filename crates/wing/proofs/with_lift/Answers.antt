-- `wing::with_lift` meets its contract. Assumes nothing.
use Rattle.wing.specs.Loads.{with_lift}
use Rattle.wing.proofs.with_lift.Goals as goal

pub returns-then-a : goal.returns-then-a
unfolding with_lift
returns-then-a c = simp (c.add.ensures, c.wrench.ensures, c.if-a.true)

pub returns : goal.returns
unfolding with_lift
returns c = simp c.if-a.false

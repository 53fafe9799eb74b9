-- `wing::wash_of` meets its contract. Assumes nothing.
use Rattle.wing.specs.Loads.{wash_for}
use Rattle.wing.proofs.wash_of.Goals as goal

pub returns-then-a : goal.returns-then-a
unfolding wash_for
returns-then-a c = simp (c.wash.ensures, c.if-a.true)

pub returns : goal.returns
unfolding wash_for
returns c = simp (c.no_wash.ensures, c.if-a.false)

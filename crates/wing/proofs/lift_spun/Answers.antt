-- `wing::lift_spun` meets its contract. Assumes nothing.
use Rattle.wing.specs.Tick.{lift_spun}
use Rattle.wing.proofs.lift_spun.Goals as goal

pub returns-then-a : goal.returns-then-a
unfolding lift_spun
returns-then-a c = simp (c.spun.ensures, c.if-a.true)

pub returns : goal.returns
unfolding lift_spun
returns c = simp c.if-a.false

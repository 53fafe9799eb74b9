-- `wing::stepped` meets its contract. Assumes nothing.
use Rattle.wing.specs.Tick.{mass_of, stepped_of}
use Rattle.wing.proofs.stepped.Goals as goal

pub returns : goal.returns
unfolding stepped_of mass_of
returns c = simp (c.of-flight.ensures, c.step-body.ensures, c.body-before.ensures)

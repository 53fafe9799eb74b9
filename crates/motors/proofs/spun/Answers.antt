-- `motors::spun` meets its contract. Assumes nothing.
use lib.Ieee.{of_bits}
use Rattle.motors.specs.Motor.{spun}
use Rattle.motors.proofs.spun.Goals as goal

pub returns-then-used : goal.returns-then-used
unfolding spun of_bits
returns-then-used c = simp (c.approach_saturated.ensures, c.if-used.true)

pub returns : goal.returns
unfolding spun of_bits
returns c = simp c.if-used.false

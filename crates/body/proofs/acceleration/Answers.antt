-- `body::acceleration` meets its contract. Assumes nothing.
use lib.Ieee.{of_bits, round}
use Rattle.body.specs.Motion.{acceleration_of}
use Rattle.body.proofs.acceleration.Goals as goal

pub returns : goal.returns
unfolding acceleration_of of_bits round
returns c = simp (c.add.ensures, c.new.ensures, c.div.ensures)

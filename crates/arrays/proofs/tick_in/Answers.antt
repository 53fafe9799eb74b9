-- `arrays::tick_in` meets its contract. Assumes nothing.
use Rattle.arrays.specs.Flight.{tick_in}
use Rattle.arrays.proofs.tick_in.Goals as goal

pub returns : goal.returns
unfolding tick_in
returns c = cc

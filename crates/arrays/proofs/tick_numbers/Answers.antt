-- `arrays::tick_numbers` meets its contract. Assumes nothing.
use mathlib.Core.Path.{refl}
use Rattle.arrays.specs.Flight.{tick_numbers}
use Rattle.arrays.proofs.tick_numbers.Goals as goal

pub returns : goal.returns
unfolding tick_numbers
returns c = refl

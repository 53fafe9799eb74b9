-- `arrays::flight_numbers` meets its contract. Assumes nothing.
use mathlib.Core.Path.{refl}
use Rattle.arrays.specs.Flight.{flight_numbers}
use Rattle.arrays.proofs.flight_numbers.Goals as goal

pub returns : goal.returns
unfolding flight_numbers
returns c = refl

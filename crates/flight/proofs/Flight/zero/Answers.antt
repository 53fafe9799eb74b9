-- `flight::Flight::zero` meets its contract. Assumes nothing.
use lib.Ieee.{of_bits}
use mathlib.Core.Path.{refl}
use Rattle.flight.proofs.Flight.zero.Goals as goal

pub returns : goal.returns
unfolding of_bits
returns c = refl

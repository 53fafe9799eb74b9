-- `arrays::is_set` meets its contract. Assumes nothing.
use mathlib.Core.Path.{refl}
use Rattle.arrays.specs.Airframe.{is_set}
use lib.Ieee.{of_bits, round}
use Rattle.arrays.proofs.is_set.Goals as goal

pub returns : goal.returns
unfolding is_set of_bits round
returns c = refl

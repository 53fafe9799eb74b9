-- `arrays::vec_in` meets its contract. Assumes nothing.
use mathlib.Core.Path.{refl}
use Rattle.arrays.specs.Flight.{vec_in}
use Rattle.arrays.proofs.vec_in.Goals as goal

pub returns : goal.returns
unfolding vec_in
returns c = refl

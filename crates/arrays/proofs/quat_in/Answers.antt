-- `arrays::quat_in` meets its contract. Assumes nothing.
use mathlib.Core.Path.{refl}
use Rattle.arrays.specs.Flight.{quat_in}
use Rattle.arrays.proofs.quat_in.Goals as goal

pub returns : goal.returns
unfolding quat_in
returns c = refl

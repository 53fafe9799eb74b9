-- `airframe::Airframe::lag_constants` meets its contract. Assumes nothing.
use mathlib.Core.Path.{refl}
use Rattle.airframe.specs.Promises.{lag_constants_of}
use Rattle.airframe.proofs.Airframe.lag_constants.Goals as goal

pub returns : goal.returns
unfolding lag_constants_of
returns c = refl

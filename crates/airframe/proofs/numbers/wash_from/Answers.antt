-- `airframe::numbers::wash_from` meets its contract. Assumes nothing.
use mathlib.Core.Path.{refl}
use Rattle.airframe.specs.FromNumbers.{wash_from}
use Rattle.airframe.proofs.numbers.wash_from.Goals as goal

pub returns : goal.returns
unfolding wash_from
returns c = refl

-- `airframe::numbers::lift_layout_of` meets its contract. Assumes nothing.
use mathlib.Core.Path.{refl}
use Rattle.airframe.specs.FromNumbers.{lift_layout_of}
use Rattle.airframe.proofs.numbers.lift_layout_of.Goals as goal

pub returns : goal.returns
unfolding lift_layout_of
returns c = refl

-- `airframe::numbers::motor_layout_of` meets its contract. Assumes nothing.
use mathlib.Core.Path.{refl}
use Rattle.airframe.specs.FromNumbers.{motor_layout_of}
use Rattle.airframe.proofs.numbers.motor_layout_of.Goals as goal

pub returns : goal.returns
unfolding motor_layout_of
returns c = refl

-- `airframe::Airframe::numbers` meets its contract. Assumes nothing.
use Rattle.airframe.specs.Numbers.{base_numbers, coefficient_numbers, lift_numbers, numbers_of, wash_numbers}
use Rattle.airframe.proofs.Airframe.numbers.Goals as goal

pub returns : goal.returns
unfolding numbers_of base_numbers coefficient_numbers wash_numbers lift_numbers
returns c = simp c.falloff_number-lost.ensures

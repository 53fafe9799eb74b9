-- `airframe::Airframe::from_numbers` meets its contract. Assumes nothing.
use Rattle.airframe.specs.FromNumbers.{airframe_of}
use Rattle.airframe.proofs.Airframe.from_numbers.Goals as goal

pub returns : goal.returns
unfolding airframe_of
returns c = simp (c.wash_from-wash.ensures, c.model_of-model.ensures)

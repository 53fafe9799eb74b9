-- `airframe::Airframe::refused_place` meets its contract. Assumes nothing.
use Rattle.airframe.specs.Acceptance.{refused_place}
use Rattle.airframe.proofs.Airframe.refused_place.Goals as goal

pub returns : goal.returns
unfolding refused_place
returns c = c.lowest_place.ensures

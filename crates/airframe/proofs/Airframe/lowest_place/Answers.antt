-- `airframe::Airframe::lowest_place` meets its contract. Assumes nothing.
use Rattle.airframe.specs.Acceptance.{lowest_place}
use Rattle.airframe.proofs.Parts.{last-or}
use Rattle.airframe.proofs.Airframe.lowest_place.Goals as goal

pub returns : goal.returns
unfolding lowest_place
returns c =
    simp (
      last-or,
      c.first_refused.ensures,
      c.lift_torques_outside-lift_torque.ensures,
      c.numbers-numbers.ensures,
    )

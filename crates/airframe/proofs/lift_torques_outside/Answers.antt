-- `airframe::lift_torques_outside` meets its contract. Assumes nothing.
use lib.Ieee.{of_bits, round}
use Rattle.airframe.specs.Acceptance.{lift_torques_outside}
use Rattle.ordered.specs.Ordered.{unless_zero}
use Rattle.airframe.proofs.lift_torques_outside.Goals as goal

pub returns-then-present : goal.returns-then-present
unfolding lift_torques_outside unless_zero of_bits round
returns-then-present c = simp (c.vectors_outside.ensures, c.if-present.true)

pub returns : goal.returns
unfolding lift_torques_outside unless_zero
returns c = simp c.if-present.false

-- `arrays::lift_torques_outside` meets its contract. Assumes nothing.
use Rattle.airframe.specs.Acceptance.{lift_torques_outside}
use Rattle.ordered.specs.Ordered.{unless_zero}
use Rattle.arrays.proofs.lift_torques_outside.Goals as goal

pub returns-then-present : goal.returns-then-present
returns-then-present c = simp (c.lift_torques_outside.ensures, c.vecs_in.ensures)

pub returns : goal.returns
unfolding lift_torques_outside unless_zero
returns c = simp c.if-present.false

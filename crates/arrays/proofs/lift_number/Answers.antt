-- `arrays::lift_number` meets its contract. Assumes nothing.
use borrow.Author.Tests.{le-ltb, lt-ltb}
use Rattle.arrays.specs.Airframe.{lift_number}
use Rattle.arrays.proofs.lift_number.Goals as goal

pub returns-then-k-lt-LIFT_PRESENT_AT : goal.returns-then-k-lt-LIFT_PRESENT_AT
unfolding lift_number
returns-then-k-lt-LIFT_PRESENT_AT c = simp (c.number_in.ensures, lt-ltb _ _ c.if-k-lt-LIFT_PRESENT_AT.true)

pub returns-then-k-lt-LIFT_USED_AT : goal.returns-then-k-lt-LIFT_USED_AT
unfolding lift_number
returns-then-k-lt-LIFT_USED_AT c = simp (c.flag_number.ensures, lt-ltb _ _ c.if-k-lt-LIFT_USED_AT.true, le-ltb _ _ c.if-k-lt-LIFT_PRESENT_AT.false)

pub returns-then-k-lt-LIFT_TORQUES_AT : goal.returns-then-k-lt-LIFT_TORQUES_AT
unfolding lift_number
returns-then-k-lt-LIFT_TORQUES_AT c =
    simp (
      c.used_number.ensures,
      lt-ltb _ _ c.if-k-lt-LIFT_TORQUES_AT.true,
      le-ltb _ _ c.if-k-lt-LIFT_USED_AT.false,
      le-ltb _ _ c.if-k-lt-LIFT_PRESENT_AT.false,
    )

pub returns : goal.returns
unfolding lift_number
returns c =
    simp (
      c.vecs_number.ensures,
      le-ltb _ _ c.if-k-lt-LIFT_TORQUES_AT.false,
      le-ltb _ _ c.if-k-lt-LIFT_USED_AT.false,
      le-ltb _ _ c.if-k-lt-LIFT_PRESENT_AT.false,
    )

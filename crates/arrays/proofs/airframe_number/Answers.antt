-- `arrays::airframe_number` meets its contract. Assumes nothing.
use borrow.Author.Tests.{le-ltb, lt-ltb}
use native.Mathlib.Omega.{arith}
use Rattle.arrays.specs.Airframe.{airframe_number}
use Rattle.arrays.proofs.airframe_number.Goals as goal

pub returns-then-k-lt-KIND_AT : goal.returns-then-k-lt-KIND_AT
unfolding airframe_number
returns-then-k-lt-KIND_AT c = simp (c.number_in.ensures, lt-ltb _ _ c.if-k-lt-KIND_AT.true)

pub returns-then-k-lt-WASH_AT : goal.returns-then-k-lt-WASH_AT
unfolding airframe_number
returns-then-k-lt-WASH_AT c = simp (c.kind_number.ensures, lt-ltb _ _ c.if-k-lt-WASH_AT.true, le-ltb _ _ c.if-k-lt-KIND_AT.false)

pub returns-then-k-lt-USED_AT : goal.returns-then-k-lt-USED_AT
unfolding airframe_number
returns-then-k-lt-USED_AT c =
    simp (
      c.flag_number.ensures,
      lt-ltb _ _ c.if-k-lt-USED_AT.true,
      le-ltb _ _ c.if-k-lt-WASH_AT.false,
      le-ltb _ _ c.if-k-lt-KIND_AT.false,
    )

pub returns-then-k-lt-TORQUES_AT : goal.returns-then-k-lt-TORQUES_AT
unfolding airframe_number
returns-then-k-lt-TORQUES_AT c =
    let s = c in
    simp (
      c.used_number.ensures,
      lt-ltb _ _ c.if-k-lt-TORQUES_AT.true,
      le-ltb _ _ s.if-k-lt-USED_AT.false,
      le-ltb _ _ s.if-k-lt-WASH_AT.false,
      le-ltb _ _ s.if-k-lt-KIND_AT.false,
    )

pub returns-then-k-lt-WEIGHTS_AT : goal.returns-then-k-lt-WEIGHTS_AT
unfolding airframe_number
returns-then-k-lt-WEIGHTS_AT c =
    let s = c in
    simp (
      c.vecs_number.ensures,
      lt-ltb _ _ c.if-k-lt-WEIGHTS_AT.true,
      le-ltb _ _ s.if-k-lt-TORQUES_AT.false,
      le-ltb _ _ s.if-k-lt-USED_AT.false,
      le-ltb _ _ s.if-k-lt-WASH_AT.false,
      le-ltb _ _ s.if-k-lt-KIND_AT.false,
    )

pub returns-then-k-lt-LIFT_NUMBERS_AT : goal.returns-then-k-lt-LIFT_NUMBERS_AT
unfolding airframe_number
returns-then-k-lt-LIFT_NUMBERS_AT c =
    let s = c in
    let r = s.before.before in
    simp (
      c.vecs_number-then-k-lt-LIFT_NUMBERS_AT.ensures,
      lt-ltb _ _ c.if-k-lt-LIFT_NUMBERS_AT.true,
      le-ltb _ _ s.if-k-lt-WEIGHTS_AT.false,
      le-ltb _ _ s.if-k-lt-TORQUES_AT.false,
      le-ltb _ _ r.if-k-lt-USED_AT.false,
      le-ltb _ _ r.if-k-lt-WASH_AT.false,
      le-ltb _ _ r.if-k-lt-KIND_AT.false,
    )

pub lift_number-requires-clause-lower_bound : goal.lift_number-requires-clause-lower_bound
lift_number-requires-clause-lower_bound c = omega arith

pub lift_number-requires-clause-upper_bound : goal.lift_number-requires-clause-upper_bound
lift_number-requires-clause-upper_bound c = omega arith

pub returns : goal.returns
unfolding airframe_number
returns c =
    let s = c in
    let r = s.before.before in
    simp (
      c.lift_number.ensures,
      le-ltb _ _ c.if-k-lt-LIFT_NUMBERS_AT.false,
      le-ltb _ _ s.if-k-lt-WEIGHTS_AT.false,
      le-ltb _ _ s.if-k-lt-TORQUES_AT.false,
      le-ltb _ _ r.if-k-lt-USED_AT.false,
      le-ltb _ _ r.if-k-lt-WASH_AT.false,
      le-ltb _ _ r.if-k-lt-KIND_AT.false,
    )

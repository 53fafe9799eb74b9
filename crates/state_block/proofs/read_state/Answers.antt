-- `state_block::read_state` meets its contract. Assumes nothing.
use lib.Ieee.{of_bits}
use borrow.Author.Tests.{eq-eqb, ne_eqb}
use Rattle.state_block.specs.Layout.{flight_from, read_state_of}
use Rattle.state_block.proofs.read_state.Goals as goal

pub returns-then-n-eq-STATE_BYTES : goal.returns-then-n-eq-STATE_BYTES
unfolding read_state_of flight_from
returns-then-n-eq-STATE_BYTES c =
    simp (
      c.tested.ensures,
      c.read_flight.ensures,
      c.read_floats-lift.ensures,
      c.read_floats-scales.ensures,
      eq-eqb _ _ c.if-n-eq-STATE_BYTES.true,
    )

pub returns-then-n-eq-LIFT_AT : goal.returns-then-n-eq-LIFT_AT
unfolding read_state_of of_bits
returns-then-n-eq-LIFT_AT c =
    let s = c in
    simp (
      c.tested-then-n-eq-LIFT_AT.ensures,
      c.read_flight-then-n-eq-LIFT_AT.ensures,
      c.read_floats-scales-then-n-eq-LIFT_AT.ensures,
      eq-eqb _ _ s.if-n-eq-LIFT_AT.true,
      ne_eqb _ _ s.if-n-eq-STATE_BYTES.false,
    )

pub returns-then-n-eq-SCALES_AT : goal.returns-then-n-eq-SCALES_AT
unfolding read_state_of of_bits
returns-then-n-eq-SCALES_AT c =
    let s = c in
    simp (
      c.tested-then-n-eq-SCALES_AT.ensures,
      c.read_flight-then-n-eq-SCALES_AT.ensures,
      eq-eqb _ _ s.if-n-eq-SCALES_AT.true,
      ne_eqb _ _ s.if-n-eq-LIFT_AT.false,
      ne_eqb _ _ s.if-n-eq-STATE_BYTES.false,
    )

pub returns : goal.returns
unfolding read_state_of
returns c =
    let s = c in
    simp (c.refused.ensures, ne_eqb _ _ s.if-n-eq-SCALES_AT.false, ne_eqb _ _ s.if-n-eq-LIFT_AT.false, ne_eqb _ _ s.if-n-eq-STATE_BYTES.false)

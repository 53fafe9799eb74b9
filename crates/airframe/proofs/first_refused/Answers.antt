-- `airframe::first_refused` meets its contract. Assumes nothing.
use Prim.Native.Nat.{◌+◌, ◌≤◌}
use lib.Ieee.{of_bits, round}
use mathlib.Core.Path.{subst, sym}
use native.Mathlib.Omega.{arith}
use Rattle.airframe.specs.Acceptance.{first_refused}
use Rattle.airframe.specs.Numbers.{numbers_count}
use Rattle.airframe.specs.declared.numbers.Segment.{Segment}
use Rattle.ordered.proofs.Ordered.{or-assoc, or-option, or-zero-last}
use Rattle.airframe.proofs.first_refused.Goals as goal

-- what `segment_outside` asks of a segment
record Asks (s : Segment) : Type 0 where
  first : s.first + s.count ≤ numbers_count
  place : 1 ≤ s.place
  most : s.place ≤ 1000

pub segment_outside-base-requires : goal.segment_outside-base-requires
segment_outside-base-requires c =
    let a : Asks c.base.result = subst Asks (sym c.base.ensures) (record { first = omega arith; place = omega arith; most = omega arith }) in
    record { numbers_within = a.first; place_lower_bound = a.place; place_upper_bound = a.most }

pub segment_outside-wash-requires : goal.segment_outside-wash-requires
segment_outside-wash-requires c =
    let a : Asks c.wash.result = subst Asks (sym c.wash.ensures) (record { first = omega arith; place = omega arith; most = omega arith }) in
    record { numbers_within = a.first; place_lower_bound = a.place; place_upper_bound = a.most }

pub segment_outside-lift-requires : goal.segment_outside-lift-requires
segment_outside-lift-requires c =
    let a : Asks c.lift.result = subst Asks (sym c.lift.ensures) (record { first = omega arith; place = omega arith; most = omega arith }) in
    record { numbers_within = a.first; place_lower_bound = a.place; place_upper_bound = a.most }

pub returns : goal.returns
unfolding first_refused of_bits round
returns c =
    let p = c in
    let s = c in
    simp (
      c.or.ensures,
      c.or-parts.ensures,
      c.or-5.ensures,
      c.or-4.ensures,
      c.or-3.ensures,
      c.or-2.ensures,
      c.or.ensures,
      or-option,
      or-assoc,
      or-zero-last,
      p.segment_outside-lift.ensures,
      p.lift.ensures,
      p.vectors_outside-weight.ensures,
      p.vectors_outside-torque.ensures,
      p.row_factors_outside-rows.ensures,
      s.segment_outside-wash.ensures,
      s.wash.ensures,
      s.segment_outside-base.ensures,
      s.base.ensures,
      s.limits_for-limits.ensures,
    )

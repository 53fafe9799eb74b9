-- What a state inside the envelope tells of its position, its velocity, its attitude's N, its running values, the lift rotors' too,
-- and its thrust scales. Assumes nothing.
use Prim.Native.Nat.{◌<◌, ℕ}
use borrow.Author.Tests.{eq-eqb}
use mathlib.Core.Path.{◌∙◌, ◌≡◌, sym}
use Rattle.float.proofs.Bounds.{inside-within}
use Rattle.ordered.proofs.Ordered.{after_none, all-pass, or-none}
use Rattle.float.specs.Interval.{Within}
use Rattle.float.specs.Notation.{minus_one, zero, one}
use Rattle.mixers.specs.Slots.{at}
use Rattle.vector.proofs.Range.{VecWithin, vec-within}
use Rattle.vector.specs.Rotation.{quat_norm}
use Rattle.flight.proofs.Inside.{none-attitude, none-vec}
use Rattle.flight.specs.Envelope.{max_norm, max_position, max_velocity, min_norm, outside_of, slot_inside, slots_outside}
use Rattle.flight.specs.State.{body_of}
use Rattle.flight.specs.declared.Flight.{Flight}

module _ (f : Flight) (e : outside_of f ≡ 0) where
  pub position-within : VecWithin max_position (body_of f).position_ned_m
  unfolding outside_of
  position-within = vec-within _ _ (sym (none-vec _ _) ∙ eq-eqb _ _ (or-none _ _ e).0)

  pub velocity-within : VecWithin max_velocity (body_of f).velocity_ned_mps
  unfolding outside_of
  velocity-within =
      let v = after_none _ _ (or-none _ _ (or-none _ _ e).1).0 in
      vec-within _ _ (sym (none-vec _ _) ∙ eq-eqb _ _ v)

  pub norm-within : Within min_norm max_norm (quat_norm (body_of f).attitude)
  unfolding outside_of
  norm-within =
      let n = after_none _ _ (or-none _ _ (or-none _ _ (or-none _ _ e).1).1).0 in
      inside-within (sym (none-attitude _) ∙ eq-eqb _ _ n)

  slots-none : (slots_outside zero one f.motors ≡ 0) × (slots_outside minus_one one f.servos ≡ 0) × (slots_outside zero one f.thrust_scale ≡ 0)
      × (slots_outside zero one f.lift_motors ≡ 0)
  unfolding outside_of
  slots-none =
      let after-velocity = (or-none _ _ (or-none _ _ e).1).1 in
      let after-rates = (or-none _ _ (or-none _ _ after-velocity).1).1 in
      let motors = or-none _ _ after-rates in
      let servos = or-none _ _ motors.1 in
      let scales = or-none _ _ servos.1 in
      (after_none _ _ motors.0, after_none _ _ servos.0, after_none _ _ scales.0, after_none _ _ scales.1)

  pub motor-within : (k : ℕ) → k < 8 → Within zero one (at f.motors k)
  unfolding slots_outside slot_inside
  motor-within k l = inside-within (all-pass (slot_inside zero one f.motors) 8 slots-none.0 k l)

  pub servo-within : (k : ℕ) → k < 8 → Within minus_one one (at f.servos k)
  unfolding slots_outside slot_inside
  servo-within k l = inside-within (all-pass (slot_inside minus_one one f.servos) 8 slots-none.1 k l)

  pub scale-within : (k : ℕ) → k < 8 → Within zero one (at f.thrust_scale k)
  unfolding slots_outside slot_inside
  scale-within k l = inside-within (all-pass (slot_inside zero one f.thrust_scale) 8 slots-none.2 k l)

  pub lift-within : (k : ℕ) → k < 8 → Within zero one (at f.lift_motors k)
  unfolding slots_outside slot_inside
  lift-within k l = inside-within (all-pass (slot_inside zero one f.lift_motors) 8 slots-none.3 k l)

-- What acceptance tells of a number: it lies in its limits. Said of the lag constants, 34, the servos', 39, the motors', and 56,
-- the lift rotors', and of the exponents of thrust, 36 and 53. Assumes nothing.
use Prim.Native.Nat.{◌+◌, ◌-◌, ◌<◌, ℕ}
use lib.Ieee.{Float, fin, nan, round}
use lib.IntN.{pos}
use lib.Seq.{get_or-set_other}
use mathlib.Core.Bool.{Bool, cond, false, true}
use mathlib.Core.List.{List}
use mathlib.Core.Path.{◌∙◌, ◌≡◌, ap, refl, subst, sym}
use native.Mathlib.Omega.{arith}
use Rattle.fixed_wing.specs.declared.ThrustFalloff.{ThrustFalloff}
use Rattle.fixed_wing.specs.declared.ThrustFalloff.TheVariants.{Linear, PitchSpeed}
use Rattle.float.proofs.Bounds.{inside-within}
use Rattle.float.specs.Interval.{Within, inside}
use Rattle.float.specs.Notation.{one, rounded}
use Rattle.mixers.specs.Slots.{at}
use Rattle.ordered.proofs.Ordered.{after_none, all-pass, or-none}
use Rattle.ordered.specs.Ordered.{after, first_fail}
use Rattle.airframe.specs.Acceptance.{first_refused, inside_from, limits_at, limits_for, limits_table, lowest_place, number_inside}
use Rattle.airframe.specs.Acceptance.{range, refused_place, segment_outside}
use Rattle.airframe.specs.Numbers.{base_count, base_numbers, base_segment, coefficient_numbers, lift_count, lift_first}
use Rattle.airframe.specs.Numbers.{lift_numbers, lift_segment, numbers_of, wash_numbers}
use Rattle.airframe.specs.declared.Airframe.{Airframe}
use Rattle.airframe.specs.declared.Limits.{Limits}
use Rattle.airframe.specs.declared.numbers.Segment.{Segment}

-- a segment that is there and where none is refused
segment-pass : (limits : List Limits) (numbers : List Float) (s : Segment) → s.present ≡ true → segment_outside limits numbers s ≡ 0 → (k : ℕ)
    → k < s.count → inside_from limits numbers s.first k ≡ true
unfolding segment_outside
segment-pass limits numbers s p e =
    all-pass _ s.count (after_none (s.place - 1) _
    (sym (ap (λ (t : Bool). cond t (after (s.place - 1) (first_fail (inside_from limits numbers s.first) 0 s.count)) 0) p) ∙ e))

-- the exponents' limits in digits, computed apart from what is said of them: where a limit is another, this is refused at once
exponent-limits : limits_at limits_table 35 ≡ range (fin false 1 (pos 0)) (fin false 3 (pos 0))
unfolding limits_table round
exponent-limits = refl

lift-exponent-limits : limits_at limits_table 49 ≡ range (fin false 1 (pos 0)) (fin false 3 (pos 0))
unfolding limits_table round
lift-exponent-limits = refl

one-to-three : range (fin false 1 (pos 0)) (fin false 3 (pos 0)) ≡ range one (rounded 3 1)
unfolding round
one-to-three = refl

module _ (a : Airframe) (e : refused_place a ≡ 0) where
  abbrev limits : List Limits
  limits = limits_for a.model.thrust_falloff

  base-pass : (k : ℕ) → k < base_count → inside_from limits (numbers_of a) 0 k ≡ true
  unfolding refused_place lowest_place first_refused
  base-pass = segment-pass limits (numbers_of a) base_segment refl (or-none _ _ e).0

  lift-pass : a.lift_present ≡ true → (k : ℕ) → k < lift_count → inside_from limits (numbers_of a) lift_first k ≡ true
  unfolding refused_place lowest_place first_refused
  lift-pass p =
      let rows = (or-none _ _ (or-none _ _ e).1).1 in
      let lift = (or-none _ _ (or-none _ _ (or-none _ _ rows).1).1).1 in
      segment-pass limits (numbers_of a) (lift_segment a.lift_present) p (or-none _ _ lift).0

  -- the falloff's limits aside, which go by its kind
  limits-stay : (f : ThrustFalloff) (k : ℕ) → (k ≡ 36 → ⊥) → limits_at (limits_for f) k ≡ limits_at limits_table k
  unfolding limits_for
  limits-stay (Linear n) k o = refl
  limits-stay (PitchSpeed n) k o = get_or-set_other limits_table 36 k (range (rounded 1 10) (rounded 10000 1)) (range nan nan) o

  number_in : (first k : ℕ) → (first + k ≡ 36 → ⊥) → inside_from limits (numbers_of a) first k ≡ true
      → Within (limits_at limits_table (first + k)).0 (limits_at limits_table (first + k)).1 (at (numbers_of a) (first + k))
  unfolding inside_from number_inside
  number_in first k o p =
      inside-within (sym (ap (λ (b : Limits). inside b.0 b.1 (at (numbers_of a) (first + k)))
      (limits-stay a.model.thrust_falloff (first + k) o)) ∙ p)

  pub servo-constant-in : Within (rounded 1 1000) (rounded 10 1) a.model.servo_time_constant_s
  unfolding limits_table numbers_of base_numbers coefficient_numbers
  servo-constant-in = number_in 0 33 (λ (h : 33 ≡ 36). omega arith) (base-pass 33 (omega arith))

  pub exponent-in : Within one (rounded 3 1) a.motors.layout.thrust_exponent
  unfolding numbers_of base_numbers coefficient_numbers
  exponent-in =
      subst (λ (b : Limits). Within b.0 b.1 a.motors.layout.thrust_exponent) (exponent-limits ∙ one-to-three)
      (number_in 0 35 (λ (h : 35 ≡ 36). omega arith) (base-pass 35 (omega arith)))

  pub motor-constant-in : Within (rounded 1 1000) (rounded 10 1) a.motors.time_constant_s
  unfolding limits_table numbers_of base_numbers coefficient_numbers
  motor-constant-in = number_in 0 38 (λ (h : 38 ≡ 36). omega arith) (base-pass 38 (omega arith))

  pub lift-exponent-in : a.lift_present ≡ true → Within one (rounded 3 1) a.lift.motors.layout.thrust_exponent
  unfolding numbers_of base_numbers coefficient_numbers wash_numbers lift_numbers
  lift-exponent-in p =
      subst (λ (b : Limits). Within b.0 b.1 a.lift.motors.layout.thrust_exponent) (lift-exponent-limits ∙ one-to-three)
      (number_in lift_first 1 (λ (h : 49 ≡ 36). omega arith) (lift-pass p 1 (omega arith)))

  pub lift-constant-in : a.lift_present ≡ true → Within (rounded 1 1000) (rounded 10 1) a.lift.motors.time_constant_s
  unfolding limits_table numbers_of base_numbers coefficient_numbers wash_numbers lift_numbers
  lift-constant-in p = number_in lift_first 4 (λ (h : 52 ≡ 36). omega arith) (lift-pass p 4 (omega arith))

-- A state is inside the envelope where each of its tests passes: the first test that fails is none. Assumes nothing.
use Prim.Native.Nat.{◌+◌, ℕ}
use borrow.Author.Tests.{eqb-false, ne_eqb}
use lib.Dec.{eqb}
use lib.Ieee.{Float, neg}
use mathlib.Core.Bool.{Bool, cond, false, true}
use mathlib.Core.List.{List}
use mathlib.Core.Path.{◌∙◌, ◌≡◌, ap, refl, sym}
use native.Mathlib.Omega.{arith}
use Rattle.ordered.proofs.Ordered.{pass-none, pass-some, some-eqb}
use Rattle.float.specs.Interval.{inside}
use Rattle.float.specs.Notation.{minus_one, zero, one}
use Rattle.ordered.specs.Ordered.{all_pass}
use Rattle.ordered.specs.Ordered.{after, first_fail, or_else}
use Rattle.vector.specs.Rotation.{quat_norm}
use Rattle.vector.specs.Vector.{vec_inside}
use Rattle.vector.specs.declared.Quaternion.{Quaternion}
use Rattle.vector.specs.declared.Vec3.{Vec3}
use Rattle.flight.specs.Envelope.{attitude_outside, is_inside, max_norm, max_position, max_rate, max_velocity, min_norm, outside_of}
use Rattle.flight.specs.Envelope.{slot_inside, slots_outside, vec_outside}
use Rattle.flight.specs.State.{body_of}
use Rattle.flight.specs.declared.Flight.{Flight}

-- one row of tests and another
pub none_or : (a b : ℕ) → eqb (or_else a b) 0 ≡ cond (eqb b 0) (eqb a 0) false
unfolding or_else
none_or a b = go (eqb a 0) refl
  where
    same : (t : Bool) → t ≡ cond t true false
    same true = refl
    same false = refl

    none : (t : Bool) → false ≡ cond t false false
    none true = refl
    none false = refl

    go : (t : Bool) → eqb a 0 ≡ t → eqb (cond (eqb a 0) b a) 0 ≡ cond (eqb b 0) (eqb a 0) false
    go true e = rw e (same (eqb b 0))
    go false e = ap (λ (t : Bool). eqb (cond t b a) 0) e ∙ e ∙ none (eqb b 0) ∙ sym (ap (λ (t : Bool). cond (eqb b 0) t false) e)

pub none_after : (n f : ℕ) → eqb (after n f) 0 ≡ eqb f 0
unfolding after
none_after n f = go (eqb f 0) refl
  where
    some : (n f : ℕ) → (f ≡ 0 → ⊥) → n + f ≡ 0 → ⊥
    some n f h e = h (omega (arith, e))

    go : (t : Bool) → eqb f 0 ≡ t → eqb (cond (eqb f 0) 0 (n + f)) 0 ≡ eqb f 0
    go true e = rw e refl
    go false e = ap (λ (t : Bool). eqb (cond t 0 (n + f)) 0) e ∙ ne_eqb (n + f) 0 (some n f (eqb-false f 0 e)) ∙ sym e

pub none-vec : (limit : Float) (v : Vec3) → eqb (vec_outside limit v) 0 ≡ vec_inside limit v
unfolding vec_outside vec_inside
none-vec limit v = go (inside (neg limit) limit v.x) (inside (neg limit) limit v.y) (inside (neg limit) limit v.z)
  where
    go : (x y z : Bool) → eqb (cond x (cond y (cond z 0 3) 2) 1) 0 ≡ cond x (cond y z false) false
    go true true true = refl
    go true true false = refl
    go true false z = refl
    go false y z = refl

pub none-attitude : (q : Quaternion) → eqb (attitude_outside q) 0 ≡ inside min_norm max_norm (quat_norm q)
unfolding attitude_outside
none-attitude q = go (inside min_norm max_norm (quat_norm q))
  where
    go : (t : Bool) → eqb (cond t 0 1) 0 ≡ t
    go true = refl
    go false = refl

pub none-slots : (low high : Float) (xs : List Float) → eqb (slots_outside low high xs) 0 ≡ all_pass (slot_inside low high xs) 8
unfolding slots_outside
none-slots low high xs = go (all_pass (slot_inside low high xs) 8) refl
  where
    go : (t : Bool) → all_pass (slot_inside low high xs) 8 ≡ t → eqb (first_fail (slot_inside low high xs) 0 8) 0 ≡ all_pass (slot_inside low high xs) 8
    go true e = ap (λ (n : ℕ). eqb n 0) (pass-none _ 8 e) ∙ sym e
    go false e = some-eqb _ (pass-some _ 8 e) ∙ sym e

-- the tests of a state, each by itself
abbrev and : Bool → Bool → Bool
and a b = cond b a false

pub inside-all : (f : Flight)
    → is_inside f
    ≡ and (vec_inside max_position (body_of f).position_ned_m)
    (and (vec_inside max_velocity (body_of f).velocity_ned_mps)
    (and (inside min_norm max_norm (quat_norm (body_of f).attitude))
    (and (vec_inside max_rate (body_of f).angular_velocity_radps)
    (and (all_pass (slot_inside zero one f.motors) 8)
    (and (all_pass (slot_inside minus_one one f.servos) 8)
    (and (all_pass (slot_inside zero one f.thrust_scale) 8) (all_pass (slot_inside zero one f.lift_motors) 8)))))))
unfolding is_inside outside_of
inside-all f = simp (none_or, none_after, none-vec, none-attitude, none-slots)

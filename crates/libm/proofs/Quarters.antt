-- The quarter turns as the code holds them are those of the definition. Within size 4 what is cut lies from -3.5 to 3.5,
-- so the cut is a whole number from -3 to 3, and each of the seven falls into
-- its quadrant. Assumes nothing.
use Prim.Native.Nat as Nat
use Prim.Native.Nat.{◌≤◌, suc, ℕ}
use lib.Dec.{T, leb→le}
use lib.Ieee.{Float, add, binary32, eq, fin, le, lt, mul, nan, neg, of_int, round, sub, to_signed}
use lib.Ieee.Scale.{finite}
use lib.IntN.{negsuc, pos, ℤ}
use lib.Signed.{le_z}
use mathlib.Core.Bool.{◌&&◌, Bool, cond, false, true}
use Rattle.std.specs.Prelude.{Some, None}
use Rattle.std.proofs.lemmas.Option.{none-some, same_Some}
use mathlib.Core.Path.{◌∙◌, ◌≡◌, ap, refl, subst, sym}
use native.Mathlib.Omega.{arith}
use Rattle.float.proofs.Interval.{scale_in, sub_in, within-finite, within_wider}
use Rattle.float.proofs.Order.{le-lt, le-trans-float, lt-le}
use Rattle.float.proofs.Rounding.{add-mono-l}
use Rattle.float.proofs.Tests.{either}
use Rattle.float.proofs.Truncation.{to_signed-mono, whole_is}
use Rattle.float.specs.Interval.{Within, inside}
use Rattle.float.specs.Notation.{half, zero}
use Rattle.libm.specs.Promises.{by_quarters, cos_by, quadrant_after, quadrant_and_rest, sin_by, whole_quarters}
use Rattle.libm.specs.Trig.{by_quadrant, cos_at, cos_of, farthest, quadrant, quarter_turn, quarters, rest_of, sin_at, sin_of}
use Rattle.libm.specs.declared.trig.Turned.{Turned}

-- what is cut lies from -3.5 to 3.5
abbrev cut_low : Float
cut_low = fin true 7 (negsuc 0)

abbrev cut_high : Float
cut_high = fin false 7 (negsuc 0)

abbrev nearest : Float
nearest = neg farthest

scaled : (x : Float) → Within nearest farthest x → Within (mul binary32 nearest quarter_turn) (mul binary32 farthest quarter_turn) (mul binary32 x quarter_turn)
unfolding neg round
scaled x w = scale_in binary32 quarter_turn nearest farthest x tt (unfold le in tt) tt tt w

cut-up-in : (x : Float) → Within nearest farthest x → Within cut_low cut_high (add binary32 (mul binary32 x quarter_turn) half)
cut-up-in x w =
    let a = scaled x w in
    let f : T (finite (mul binary32 x quarter_turn)) = within-finite (mul binary32 nearest quarter_turn) (mul binary32 farthest quarter_turn)
    (mul binary32 x quarter_turn) (unfold mul neg round in tt) (unfold mul neg round in tt) a in
    record {
      at_least =
          le-trans-float cut_low (add binary32 (mul binary32 nearest quarter_turn) half) (add binary32 (mul binary32 x quarter_turn) half)
          (unfold le add mul neg round in tt) (add-mono-l binary32 (mul binary32 nearest quarter_turn) (mul binary32 x quarter_turn) half
          (unfold mul neg round in tt) f tt a.at_least);
      at_most =
          le-trans-float (add binary32 (mul binary32 x quarter_turn) half) (add binary32 (mul binary32 farthest quarter_turn) half) cut_high
          (add-mono-l binary32 (mul binary32 x quarter_turn) (mul binary32 farthest quarter_turn) half f (unfold mul neg round in tt) tt a.at_most)
          (unfold le add mul neg round in tt);
    }

cut-down-in : (x : Float) → Within nearest farthest x → Within cut_low cut_high (sub binary32 (mul binary32 x quarter_turn) half)
cut-down-in x w =
    within_wider (sub binary32 (mul binary32 nearest quarter_turn) half) (sub binary32 (mul binary32 farthest quarter_turn) half) cut_low cut_high
    (sub binary32 (mul binary32 x quarter_turn) half) (unfold le sub mul neg round in tt) (unfold le sub mul neg round in tt)
    (sub_in binary32 half (mul binary32 nearest quarter_turn) (mul binary32 farthest quarter_turn) (mul binary32 x quarter_turn) tt
    (unfold mul neg round in tt) (unfold mul neg round in tt) (scaled x w))

-- t ± 0.5
abbrev aside : Float → Float
aside x = cond (le zero x) (add binary32 (mul binary32 x quarter_turn) half) (sub binary32 (mul binary32 x quarter_turn) half)

aside-in : (x : Float) → Within nearest farthest x → Within cut_low cut_high (aside x)
aside-in x w = either (Within cut_low cut_high) (le zero x) (cut-up-in x w) (cut-down-in x w)

-- a whole number from -3 to 3
record Few (q : ℤ) : Type 0 where
  at_least : T (le_z (negsuc 2) q)
  at_most : T (le_z q (pos 3))

quarters-few : (x : Float) → Within nearest farthest x → Few (quarters x)
unfolding quarters to_signed
quarters-few x w =
    let v = aside-in x w in
    let f = within-finite cut_low cut_high (aside x) tt tt v in
    record { at_least = to_signed-mono 63 cut_low (aside x) tt f v.at_least; at_most = to_signed-mono 63 (aside x) cut_high f tt v.at_most }

quarters-held : (x : Float) → Within nearest farthest x → whole_quarters x ≡ of_int binary32 (quarters x)
unfolding whole_quarters quarters
quarters-held x w =
    let v = aside-in x w in
    let f = within-finite cut_low cut_high (aside x) tt tt v in
    whole_is (aside x) (lt-le (fin true 1 (pos 24)) cut_low (aside x) tt tt f (unfold lt in tt) v.at_least)
    (le-lt (aside x) cut_high (fin false 1 (pos 24)) f tt tt v.at_most (unfold lt in tt))

-- each of the seven in its quadrant
quarters-quadrant : (q : ℤ) (i ii iii iv : Float) → Few q → by_quarters (quadrant_after (of_int binary32 q)) i ii iii iv ≡ by_quadrant q i ii iii iv
unfolding by_quarters quadrant_after by_quadrant quadrant of_int round eq neg
quarters-quadrant (pos Nat.zero) i ii iii iv f = refl
quarters-quadrant (pos (suc Nat.zero)) i ii iii iv f = refl
quarters-quadrant (pos (suc (suc Nat.zero))) i ii iii iv f = refl
quarters-quadrant (pos (suc (suc (suc Nat.zero)))) i ii iii iv f = refl
quarters-quadrant (pos (suc (suc (suc (suc n))))) i ii iii iv f = absurd (none n (leb→le (suc (suc (suc (suc n)))) 3 f.at_most))
  where
    none : (n : ℕ) → suc (suc (suc (suc n))) ≤ 3 → ⊥
    none n h = omega arith
quarters-quadrant (negsuc Nat.zero) i ii iii iv f = refl
quarters-quadrant (negsuc (suc Nat.zero)) i ii iii iv f = refl
quarters-quadrant (negsuc (suc (suc Nat.zero))) i ii iii iv f = refl
quarters-quadrant (negsuc (suc (suc (suc n)))) i ii iii iv f = absurd (none n (leb→le (suc (suc (suc n))) 2 f.at_least))
  where
    none : (n : ℕ) → suc (suc (suc n)) ≤ 2 → ⊥
    none n h = omega arith

-- ---- sin and cos of an x within size 4, by its quadrant and its rest
within : (x : Float) → le nearest x ≡ true → le x farthest ≡ true → Within nearest farthest x
within x a b = record { at_least = subst T (sym a) tt; at_most = subst T (sym b) tt }

abbrev of_x : Float → Turned
of_x x = record { quadrant = quadrant_after (whole_quarters x); rest = rest_of x (whole_quarters x) }

sin-within : (x : Float) → le nearest x ≡ true → le x farthest ≡ true → sin_by (of_x x) ≡ sin_of x
unfolding sin_of sin_by sin_at
sin-within x a b = rw (a, b, quarters-held x (within x a b)) (quarters-quadrant (quarters x) _ _ _ _ (quarters-few x (within x a b)))

cos-within : (x : Float) → le nearest x ≡ true → le x farthest ≡ true → cos_by (of_x x) ≡ cos_of x
unfolding cos_of cos_by cos_at
cos-within x a b = rw (a, b, quarters-held x (within x a b)) (quarters-quadrant (quarters x) _ _ _ _ (quarters-few x (within x a b)))

-- what is turned lies within, and what is not lies beyond
record Inside (x : Float) (t : Turned) : Type 0 where
  low : le nearest x ≡ true
  high : le x farthest ≡ true
  is : of_x x ≡ t

inside-turned : (x : Float) (t : Turned) → quadrant_and_rest x ≡ Some t → Inside x t
unfolding quadrant_and_rest inside
inside-turned x t e = go (le nearest x) (le x farthest) refl refl e
  where
    go : (a b : Bool) → le nearest x ≡ a → le x farthest ≡ b → cond (a && b) (Some (of_x x)) None ≡ Some t → Inside x t
    go true true p q e = record { low = p; high = q; is = same_Some _ _ e }
    go true false p q e = absurd (none-some _ e)
    go false b p q e = absurd (none-some _ e)

beyond : (x v : Float) → quadrant_and_rest x ≡ None → cond (le nearest x && le x farthest) v nan ≡ nan
unfolding quadrant_and_rest inside
beyond x v e = go (le nearest x && le x farthest) e
  where
    go : (a : Bool) → cond a (Some (of_x x)) None ≡ None → cond a v nan ≡ nan
    go true e = absurd (none-some _ (sym e))
    go false e = refl

pub sin_held : (x : Float) (t : Turned) → quadrant_and_rest x ≡ Some t → sin_by t ≡ sin_of x
sin_held x t e = let i = inside-turned x t e in sym (ap sin_by i.is) ∙ sin-within x i.low i.high

pub cos_held : (x : Float) (t : Turned) → quadrant_and_rest x ≡ Some t → cos_by t ≡ cos_of x
cos_held x t e = let i = inside-turned x t e in sym (ap cos_by i.is) ∙ cos-within x i.low i.high

pub sin_beyond : (x : Float) → quadrant_and_rest x ≡ None → sin_of x ≡ nan
unfolding sin_of
sin_beyond x e = beyond x _ e

pub cos_beyond : (x : Float) → quadrant_and_rest x ≡ None → cos_of x ≡ nan
unfolding cos_of
cos_beyond x e = beyond x _ e

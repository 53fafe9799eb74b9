-- The angles are numbers: atan2 of a finite y and an x that is no NaN is finite, and so is asin from -1 to 1. Assumes nothing.
use Prim.Native.Nat as Nat
use Prim.Native.Nat.{suc, ℕ}
use lib.Dec.{T, lt→ltb}
use lib.Ieee.{Float, add, binary32, div, eq, fin, fits, inf, is_nan, le, lt, mul, nan, neg, round, sub}
use lib.Ieee.Bits.{is_false}
use lib.Ieee.Positive.{between}
use lib.Ieee.Scale.{finite}
use lib.IntN.{ℤ}
use mathlib.Core.Bool.{Bool, ◌&&◌, cond, false, not, true, true≢false}
use mathlib.Core.Path.{◌∙◌, ◌≡◌, ap₂, refl, subst, sym}
use native.Mathlib.Omega.{arith}
use Rattle.float.proofs.Interval.{add-in, from_in, mul-not-neg, sub_in, within-finite}
use Rattle.float.proofs.Order.{le-neg, le-trans-float, le→not-lt, lt→le, not-lt→le, over-le}
use Rattle.float.proofs.Rounding.{add-mono-l, neg-finite}
use Rattle.float.proofs.Sign.{over, units-over}
use Rattle.float.proofs.Sizes.{Sized, over-number, ratio-sized, sized, sized-add, sized-finite, sized-mul, sized-neg, sized-sub, sized-wider, two_to}
use Rattle.float.proofs.Zeros.{minus-below, plus-above, plus-not-below, zero-is-zero}
use Rattle.float.specs.Interval.{Within}
use Rattle.float.specs.Notation.{◌⊕◌, ◌⊖◌, ◌⊗◌, ◌⊘◌, zero, one, rounded, abs}
use Rattle.libm.specs.Atan.{angle_of, asin_of, atan2_of, atan_near, atan_poly, beyond, half_pi, knee, off_origin, pi, quarter_pi, sided}
use Rattle.libm.specs.Sqrt.{root_units, sqrt_of}

-- ---- the polynomial, of an argument from -1 to 1
poly-sized : {a z : Float} → Sized 0 a → Sized 0 z → Sized 4 (atan_poly a z)
unfolding atan_poly
poly-sized s t =
    let c : Sized 0 (rounded 805374449538 10000000000000) = sized 0 (unfold le neg round in tt) (unfold le round in tt) in
    let d : Sized 0 (rounded 138776856032 1000000000000) = sized 0 (unfold le neg round in tt) (unfold le round in tt) in
    let e : Sized 0 (rounded 199777106478 1000000000000) = sized 0 (unfold le neg round in tt) (unfold le round in tt) in
    let f : Sized 0 (rounded 333329491539 1000000000000) = sized 0 (unfold le neg round in tt) (unfold le round in tt) in
    let first = sized-sub 1 (sized-mul 0 c t (unfold le mul round in tt)) d (unfold le add round in tt) in
    let second = sized-add 2 (sized-mul 1 first t (unfold le mul round in tt)) e (unfold le add round in tt) in
    let third = sized-sub 3 (sized-mul 2 second t (unfold le mul round in tt)) f (unfold le add round in tt) in
    sized-add 4 (sized-mul 3 (sized-mul 3 third t (unfold le mul round in tt)) s (unfold le mul round in tt)) s (unfold le add round in tt)

-- (a - 1) / (a + 1), above the knee
module _ (a : Float) (s : Sized 0 a) (k : T (le knee a)) where
  below_one : Within knee one a
  below_one = record { at_least = k; at_most = s.within.at_most }

  less : Within (knee ⊖ one) (one ⊖ one) (a ⊖ one)
  unfolding round
  less = sub_in binary32 one knee one a tt tt tt below_one

  more : T (le (knee ⊕ one) (a ⊕ one)) × T (le (a ⊕ one) (one ⊕ one))
  unfolding round
  more = (add-mono-l binary32 knee a one tt (sized-finite s) tt k, add-mono-l binary32 a one one (sized-finite s) tt tt s.within.at_most)

  quotient-sized : Sized 0 ((a ⊖ one) ⊘ (a ⊕ one))
  quotient-sized =
      let low : T (le one (a ⊕ one)) = le-trans-float one (knee ⊕ one) (a ⊕ one) (unfold le add round in tt) more.0 in
      let high : T (le (a ⊕ one) (two_to 1)) = le-trans-float (a ⊕ one) (one ⊕ one) (two_to 1) more.1 (unfold le add round in tt) in
      ratio-sized (a ⊖ one) (a ⊕ one) (within-finite (knee ⊖ one) (one ⊖ one) (a ⊖ one) (unfold sub round in tt) (unfold sub round in tt) less)
      (between one (a ⊕ one) (two_to 1) tt tt low high)
      (le-trans-float (neg (a ⊕ one)) (neg one) (a ⊖ one) (le-neg one (a ⊕ one) low)
      (le-trans-float (neg one) (knee ⊖ one) (a ⊖ one) (unfold le neg sub round in tt) less.at_least))
      (le-trans-float (a ⊖ one) (one ⊖ one) (a ⊕ one) less.at_most (le-trans-float (one ⊖ one) one (a ⊕ one) (unfold le sub round in tt) low))

near-sized : {a : Float} → Sized 0 a → Sized 5 (atan_near a)
unfolding atan_near
near-sized {a} s = go (lt knee a) (λ t. lt→le knee a t)
  where
    r : Float
    r = (a ⊖ one) ⊘ (a ⊕ one)

    quarter : Sized 0 quarter_pi
    quarter = sized 0 (unfold le neg round in tt) (unfold le round in tt)

    go : (b : Bool) → (T b → T (le knee a)) → Sized 5 (cond b (atan_poly r (r ⊗ r) ⊕ quarter_pi) (atan_poly a (a ⊗ a)))
    go true h =
        let q = quotient-sized a s (h tt) in
        sized-add 5 (poly-sized q (sized-mul 0 q q (unfold le mul round in tt))) quarter (unfold le add round in tt)
    go false h = sized-wider 5 (poly-sized s (sized-mul 0 s s (unfold le mul round in tt))) (unfold le in tt)

-- ---- the first quadrant: the smaller over the larger
angle-by : (y x : Float) → (T (lt x y) → Sized 0 (x ⊘ y)) → (T (not (lt x y)) → Sized 0 (y ⊘ x)) → Sized 6 (angle_of y x)
unfolding angle_of
angle-by y x = go (lt x y)
  where
    right : Sized 1 half_pi
    right = sized 1 (unfold le neg round in tt) (unfold le round in tt)

    go : (b : Bool) → (T b → Sized 0 (x ⊘ y)) → (T (not b) → Sized 0 (y ⊘ x)) → Sized 6 (cond b (half_pi ⊖ atan_near (x ⊘ y)) (atan_near (y ⊘ x)))
    go true h k = sized-sub 6 right (near-sized (h tt)) (unfold le add round in tt)
    go false h k = sized-wider 6 (near-sized (k tt)) (unfold le in tt)

-- by a y above 0
over_sized : (x : Float) (m : ℕ) (e : ℤ) → T (finite x) → T (over x) → T (le x (fin false (suc m) e)) → Sized 0 (x ⊘ fin false (suc m) e)
over_sized x m e p o h = ratio-sized x (fin false (suc m) e) p (lt→ltb 0 (suc m) (omega arith)) (over-le (fin false (suc m) e) x tt o) h

zero-sized : (m : ℕ) (e : ℤ) → Sized 0 (zero ⊘ fin false (suc m) e)
zero-sized m e = over_sized zero m e tt tt (lt→le zero (fin false (suc m) e) (subst T (sym (plus-above m e)) tt))

angle-sized : (y x : Float) → T (finite y) → T (not (is_nan x)) → (eq y zero && eq x zero) ≡ false → Sized 6 (angle_of (abs y) (abs x))
unfolding abs
angle-sized nan x p q o = absurd p
angle-sized (inf s) x p q o = absurd p
angle-sized (fin s m e) nan p q o = absurd (unfold is_nan in q)
angle-sized (fin s Nat.zero e) (inf t) p q o =
    angle-by zero (inf false) (λ h. absurd (unfold lt in h)) (λ h. unfold div in sized 0 (unfold le neg in tt) (unfold le in tt))
angle-sized (fin s (suc m) e) (inf t) p q o =
    angle-by (fin false (suc m) e) (inf false) (λ h. absurd (unfold lt in h)) (λ h. unfold div in sized 0 (unfold le neg in tt) (unfold le in tt))
angle-sized (fin s Nat.zero e) (fin t Nat.zero d) p q o = absurd (true≢false (sym (ap₂ ◌&&◌ (zero-is-zero s e) (zero-is-zero t d)) ∙ o))
angle-sized (fin s Nat.zero e) (fin t (suc n) d) p q o =
    angle-by zero (fin false (suc n) d) (λ h. absurd (subst T (plus-not-below (suc n) d) h)) (λ h. zero-sized n d)
angle-sized (fin s (suc m) e) (fin t Nat.zero d) p q o =
    angle-by (fin false (suc m) e) zero (λ h. zero-sized m e) (λ h. absurd (subst (λ (b : Bool). T (not b)) (plus-above m e) h))
angle-sized (fin s (suc m) e) (fin t (suc n) d) p q o =
    let y = fin false (suc m) e in
    let x = fin false (suc n) d in
    angle-by y x (λ h. over_sized x m e tt tt (lt→le x y h)) (λ h. over_sized y n d tt tt (not-lt→le x y (unfold is_nan in tt) (unfold is_nan in tt) h))

-- ---- all quadrants
off-sized : (y x : Float) → T (finite y) → T (not (is_nan x)) → (eq y zero && eq x zero) ≡ false → Sized 7 (off_origin y x)
unfolding off_origin sided beyond
off-sized y x p q o = go (lt y zero) (lt x zero)
  where
    a : Float
    a = angle_of (abs y) (abs x)

    straight : Sized 2 pi
    straight = sized 2 (unfold le neg round in tt) (unfold le round in tt)

    past : (c : Bool) → Sized 7 (cond c (pi ⊖ a) a)
    past true = sized-sub 7 straight (angle-sized y x p q o) (unfold le add round in tt)
    past false = sized-wider 7 (angle-sized y x p q o) (unfold le in tt)

    go : (b c : Bool) → Sized 7 (cond b (neg (cond c (pi ⊖ a) a)) (cond c (pi ⊖ a) a))
    go true c = sized-neg (past c)
    go false c = past c

pub atan2-sized : (y x : Float) → T (finite y) → T (not (is_nan x)) → Sized 7 (atan2_of y x)
unfolding atan2_of
atan2-sized y x p q = go (eq y zero && eq x zero) refl
  where
    go : (b : Bool) → (eq y zero && eq x zero) ≡ b → Sized 7 (cond b zero (off_origin y x))
    go true e = sized 7 (unfold le neg in tt) (unfold le in tt)
    go false e = off-sized y x p q e

-- ---- asin
root-number : (x : Float) → T (finite x) → T (le zero x) → T (not (is_nan (sqrt_of binary32 x)))
unfolding sqrt_of root_units
root-number nan p h = absurd p
root-number (inf s) p h = absurd p
root-number (fin s Nat.zero e) p h = unfold is_nan in tt
root-number (fin true (suc m) e) p h =
    absurd (true≢false (sym (minus-below m e) ∙ is_false (lt (fin true (suc m) e) zero) (le→not-lt (fin true (suc m) e) zero tt tt h)))
root-number (fin false (suc m) e) p h = over-number _ (units-over binary32 _ _)

pub asin-sized : (s : Float) → Sized 0 s → Sized 7 (asin_of s)
unfolding asin_of
asin-sized s h =
    let less : Sized 1 (one ⊖ s) = sized-sub 1 (sized 0 (unfold le neg in tt) (unfold le in tt)) h (unfold le add round in tt) in
    let more : Sized 1 (one ⊕ s) = sized-add 1 (sized 0 (unfold le neg in tt) (unfold le in tt)) h (unfold le add round in tt) in
    let low : T (le zero (one ⊖ s)) = le-trans-float zero (one ⊖ one) (one ⊖ s) (unfold le sub round in tt)
    (from_in binary32 one (neg one) one s tt (neg-finite one tt) tt h.within).at_least in
    let high : T (le zero (one ⊕ s)) = le-trans-float zero (one ⊕ neg one) (one ⊕ s) (unfold le add neg round in tt)
    (add-in binary32 one (neg one) one s tt (neg-finite one tt) tt h.within).at_least in
    atan2-sized s (sqrt_of binary32 ((one ⊖ s) ⊗ (one ⊕ s))) (sized-finite h)
    (root-number ((one ⊖ s) ⊗ (one ⊕ s)) (sized-finite (sized-mul 2 less more (unfold le mul round in tt)))
    (mul-not-neg binary32 (one ⊖ s) (one ⊕ s) (sized-finite less) (sized-finite more) low high (unfold fits in tt)))

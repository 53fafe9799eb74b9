-- Where a power lies: from 0 to 1 for a number from 0 to 1 and an exponent from 1 to 3 (02, 4), whose limit of 1 never acts, since
-- ln is at most 0 there and exp at most 1. Assumes nothing.
use lib.Dec.{T}
use lib.Ieee.{Float, binary32, eq, fits, le, lt, mul, nan, neg, round}
use lib.Ieee.Bits.{is_false}
use mathlib.Core.Bool.{Bool, ◌||◌, cond, false, true}
use mathlib.Core.Path.{◌∙◌, ◌≡◌, refl, subst}
use Rattle.float.proofs.Bounds.{within-inside}
use Rattle.float.proofs.Interval.{mul_in, within-finite, within_wider}
use Rattle.float.proofs.Order.{finite_number, le→not-lt, lt→le}
use Rattle.float.proofs.Sign.{mul-comm-exact}
use Rattle.float.proofs.Zeros.{eq_comm, some-not-zero}
use Rattle.float.specs.Interval.{Within, inside}
use Rattle.float.specs.Notation.{◌⊗◌, zero, one, rounded}
use Rattle.libm.proofs.LogRange.{ln-in, minus104, of_positive}
use Rattle.libm.proofs.Range.{exp-at-most-one}
use Rattle.libm.specs.Exp.{exp_of}
use Rattle.libm.specs.Log.{ln_of}
use Rattle.libm.specs.Pow.{at_most_one, pow_of}

abbrev pub three : Float
three = rounded 3 1

-- ---- a number is above 0 where it is not below and not equal
above-not-zero : (v : Float) → T (lt zero v) → T (le v one) → eq v zero ≡ false
above-not-zero = of_positive (λ (x : Float). eq x zero ≡ false) (λ w e. some-not-zero false w e)

not-zero-above : (v : Float) → T (le zero v) → eq v zero ≡ false → T (lt zero v)
unfolding le
not-zero-above v h z = or_left (lt zero v) (subst (λ (t : Bool). T (lt zero v || t)) (eq_comm zero v ∙ z) h)
  where
    or_left : (a : Bool) → T (a || false) → T a
    or_left true t = tt
    or_left false t = t

-- ---- of a number above 0
module _ (v e : Float) (held : T (fits binary32 v)) (above : T (lt zero v)) (most : T (le v one)) (w : Within one three e) where
  product-in : Within (mul binary32 minus104 three) zero (e ⊗ ln_of v)
  unfolding round
  product-in =
      let l = ln-in v held above most in
      let x : Within minus104 zero (ln_of v) = record { at_least = lt→le minus104 (ln_of v) l.0; at_most = l.1 } in
      rw (mul-comm-exact binary32 e (ln_of v)) (unfold mul neg round in
      mul_in binary32 minus104 zero (ln_of v) three e tt tt tt (unfold le in tt) (unfold le in tt) x
      (within_wider one three zero three e (unfold le in tt) (unfold le round in tt) w))

  -- before the limit
  pub power_in : Within zero one (exp_of (e ⊗ ln_of v))
  power_in =
      exp-at-most-one (e ⊗ ln_of v) (finite_number (e ⊗ ln_of v)
      (within-finite (mul binary32 minus104 three) zero (e ⊗ ln_of v) (unfold mul neg round in tt) tt product-in)) product-in.at_most

  -- which never acts
  pub not-limited : at_most_one (exp_of (e ⊗ ln_of v)) ≡ exp_of (e ⊗ ln_of v)
  unfolding at_most_one
  not-limited =
      let x = exp_of (e ⊗ ln_of v) in
      rw (is_false (lt one x) (le→not-lt one x tt (within-finite zero one x tt tt power_in) power_in.at_most))

  pub pow-is : pow_of v e ≡ exp_of (e ⊗ ln_of v)
  unfolding pow_of
  pow-is = rw (above-not-zero v above, within-inside (record { at_least = lt→le zero v above; at_most = most }), not-limited)

-- ---- of a number from 0 on
pub pow-in : (v e : Float) → T (fits binary32 v) → Within zero one v → Within one three e → Within zero one (pow_of v e)
unfolding pow_of
pow-in v e f w r = go (eq v zero) refl
  where
    go : (t : Bool) → eq v zero ≡ t → Within zero one (cond t zero (cond (inside zero one v) (at_most_one (exp_of (e ⊗ ln_of v))) nan))
    go true h = unfold le in record { at_least = tt; at_most = tt }
    go false h =
        let above = not-zero-above v w.at_least h in
        rw (within-inside w, not-limited v e f above w.at_most r) (power_in v e f above w.at_most r)

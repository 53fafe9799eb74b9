-- What the tests of `sqrtf` and `logf` say of a float, and its root or logarithm where it is not positive and finite: by cases of
-- what a float is. Assumes nothing.
use Prim.Native.Nat.{◌%◌, ◌*◌, ◌+◌, ◌-◌, ◌/◌, ◌<◌, ◌^◌, ◌≤◌, suc, zero, ℕ}
use lib.Dec.{T, eqb, eqb→eq, leb, ltb, ltb→lt, lt→ltb}
use lib.Ieee.{Float, binary32, down, eq, fin, fits, inf, is_nan, lt, nan, of_bits, size, to_bits, up}
use lib.Ieee.Bits.{of_bits-to_bits}
use lib.Ieee.Digits.{size-le}
use lib.Ieee.Fits.{and_l, and_r, down_pos, kept-lt}
use lib.IntN.{negsuc, pos, ℤ}
use lib.Pow.{pow_pos}
use mathlib.Core.Bool.{Bool, ◌&&◌, false, not, true}
use mathlib.Core.Logic.{inl, inr}
use mathlib.Core.Path.{◌∙◌, ◌≡◌, ap, refl, subst, sym}
use native.Mathlib.Nat.{div-lt_iff_lt-mul, eq-zero-or-pos, le_of_eq, lt_irrefl, lt_of_le_of_lt, mul-lt-mul_of_pos_right, mul-pos}
use native.Mathlib.Nat.{mul_right_comm, not-le_of_lt, zero-lt-suc, zero-mul}
use native.Mathlib.Omega.{arith}
use Rattle.libm.specs.Log.{ln_of}
use Rattle.libm.specs.Sqrt.{sqrt_of}

no : {b : Bool} → b ≡ true → b ≡ false → ⊥
no p q = subst T (sym p ∙ q) tt

up_pos : (e : ℤ) → 0 < up e
up_pos (pos k) = pow_pos k
up_pos (negsuc k) = zero-lt-suc 0

size-pos : (m : ℕ) (e : ℤ) → 0 < suc m * up e * 1
size-pos m e = mul-pos (mul-pos (zero-lt-suc m) (up_pos e)) (zero-lt-suc 0)

-- ---- above zero

pub above_no_nan : (x : Float) → lt (of_bits binary32 0) x ≡ true → T (not (is_nan x))
unfolding lt of_bits is_nan
above_no_nan nan h = subst T (sym h) tt
above_no_nan (inf s) h = tt
above_no_nan (fin s m e) h = tt

zero-not-above : lt (of_bits binary32 0) (of_bits binary32 0) ≡ false
unfolding lt of_bits
zero-not-above = refl

pub bits_pos : (x : Float) → T (fits binary32 x) → lt (of_bits binary32 0) x ≡ true → 0 < to_bits binary32 x
bits_pos x f h = elim (eq-zero-or-pos (to_bits binary32 x)) [
  | inl z ↦ absurd (no (subst (λ (y : Float). lt (of_bits binary32 0) y ≡ true) (sym (of_bits-to_bits binary32 x f) ∙ ap (of_bits binary32) z) h) zero-not-above)
  | inr p ↦ p
]

-- a finite number's pattern is below the infinity's
pub bits-finite : (m : ℕ) (e : ℤ) → T (fits binary32 (fin false (suc m) e)) → to_bits binary32 (fin false (suc m) e) < 2139095040
unfolding fits to_bits
bits-finite m e f =
    let a = suc m * up e in
    let d = down e in
    let n = a * 2 ^ 149 / d in
    let k = size n - 24 in
    let l : a < 2 ^ 128 * d = ltb→lt a (2 ^ 128 * d) (and_r (eqb (suc m % 2) 1 && ltb (suc m) (2 ^ 24) && leb d (2 ^ 149)) (ltb a (2 ^ 128 * d)) f) in
    let n-lt : n < 2 ^ 277 = (div-lt_iff_lt-mul (down_pos e)).1
    (subst (λ (x : ℕ). a * 2 ^ 149 < x) (mul_right_comm (2 ^ 128) d (2 ^ 149)) (mul-lt-mul_of_pos_right l (pow_pos 149))) in
    total k (n / 2 ^ k) (few (size n) (size-le n 277 n-lt)) (kept-lt 24 n)
  where
    few : (z : ℕ) → z ≤ 277 → z - 24 ≤ 253
    few z h = omega arith

    total : (k q : ℕ) → k ≤ 253 → q < 16777216 → 0 + k * 8388608 + q < 2139095040
    total k q h l = omega arith

pub top-is-infinite : (x : Float) → T (fits binary32 x) → lt (of_bits binary32 0) x ≡ true → 2139095040 ≤ to_bits binary32 x → x ≡ inf false
unfolding lt of_bits
top-is-infinite nan f h l = absurd (subst T (sym h) tt)
top-is-infinite (inf true) f h l = absurd (subst T (sym h) tt)
top-is-infinite (inf false) f h l = refl
top-is-infinite (fin true zero e) f h l = absurd (subst T (sym h) tt)
top-is-infinite (fin false zero e) f h l = absurd (subst T (sym (simp zero-mul at h)) tt)
top-is-infinite (fin true (suc m) e) f h l = absurd (subst T (sym h) tt)
top-is-infinite (fin false (suc m) e) f h l = absurd (not-le_of_lt (bits-finite m e f) l)

-- ---- zero

by_zero : (P : Float → Type 0) → ((s : Bool) (e : ℤ) → P (fin s zero e)) → (x : Float) → eq x (of_bits binary32 0) ≡ true → P x
unfolding eq of_bits
by_zero P p nan h = absurd (subst T (sym h) tt)
by_zero P p (inf s) h = absurd (subst T (sym h) tt)
by_zero P p (fin s zero e) h = p s e
by_zero P p (fin s (suc m) e) h =
    absurd (lt_irrefl 0 (subst (λ (x : ℕ). 0 < x)
    (eqb→eq (suc m * up e * 1) (0 * down e) (and_l (eqb (suc m * up e * 1) (0 * down e)) _ (subst T (sym h) tt)) ∙ zero-mul (down e))
    (size-pos m e)))

pub zero-is-root : (x : Float) → eq x (of_bits binary32 0) ≡ true → x ≡ sqrt_of binary32 x
unfolding sqrt_of
zero-is-root = by_zero (λ (x : Float). x ≡ sqrt_of binary32 x) (λ s e. refl)

pub zero-has-ln : (x : Float) → eq x (of_bits binary32 0) ≡ true → ln_of x ≡ inf true
unfolding ln_of
zero-has-ln = by_zero (λ (x : Float). ln_of x ≡ inf true) (λ s e. refl)

-- ---- neither

by-rest : (P : Float → Type 0) → P nan → P (inf true) → ((m : ℕ) (e : ℤ) → P (fin true (suc m) e)) → (x : Float) → lt (of_bits binary32 0) x ≡ false
    → eq x (of_bits binary32 0) ≡ false → P x
unfolding lt eq of_bits
by-rest P n i p nan h k = n
by-rest P n i p (inf true) h k = i
by-rest P n i p (inf false) h k = absurd (subst T h tt)
by-rest P n i p (fin true zero e) h k = absurd (subst T (simp zero-mul at k) tt)
by-rest P n i p (fin false zero e) h k = absurd (subst T (simp zero-mul at k) tt)
by-rest P n i p (fin true (suc m) e) h k = p m e
by-rest P n i p (fin false (suc m) e) h k =
    absurd (subst T h (lt→ltb (0 * down e) (suc m * up e * 1) (lt_of_le_of_lt (le_of_eq (zero-mul (down e))) (size-pos m e))))

pub rest-has-no-root : (x : Float) → lt (of_bits binary32 0) x ≡ false → eq x (of_bits binary32 0) ≡ false → sqrt_of binary32 x ≡ nan
unfolding sqrt_of
rest-has-no-root = by-rest (λ (x : Float). sqrt_of binary32 x ≡ nan) refl refl (λ m e. refl)

pub rest-has-no-ln : (x : Float) → lt (of_bits binary32 0) x ≡ false → eq x (of_bits binary32 0) ≡ false → ln_of x ≡ nan
unfolding ln_of
rest-has-no-ln = by-rest (λ (x : Float). ln_of x ≡ nan) refl refl (λ m e. refl)

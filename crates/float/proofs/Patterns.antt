-- The bit patterns of binary32: which are a NaN's, and what the others stand for. Assumes nothing.
use Rattle.std.proofs.Common.{◌≡◌, ℕ, suc, ◌+◌, ◌*◌, ◌/◌, ◌%◌, ◌<◌, ◌≤◌, Bool, false, cond, not, T, eqb, leb, sym, refl, ap, ◌∙◌, subst, arith, eqb→eq, lt→ltb}
use lib.Arith.{le→nltb, lt→nleb}
use lib.Dec.{not_T}
use lib.Ieee.{Float, binary32, binary64, div, fin, inf, is_nan, nan, nan_bits, ne, odd, of_bits, of_fields}
use lib.Ieee.Bits.{cond_no, is_false, nan_bits_above, nan_bits_is}

pub of_bits_is : (b : ℕ) → of_bits binary32 b ≡ of_fields binary32 (leb 2147483648 b) (b % 2147483648 / 8388608) (b % 8388608)
unfolding of_bits
of_bits_is b = refl

-- ---- NaNs

pub not-nan-pattern : (b : ℕ) → b % 2147483648 ≤ 2139095040 → T (not (nan_bits binary32 b))
not-nan-pattern b h = subst (λ (t : Bool). T (not t)) (sym (nan_bits_above binary32 b)) (le→nltb 2139095040 (b % 2147483648) h)

pub not-nan-pattern64 : (b : ℕ) → b % 9223372036854775808 ≤ 9218868437227405312 → T (not (nan_bits binary64 b))
not-nan-pattern64 b h = subst (λ (t : Bool). T (not t)) (sym (nan_bits_above binary64 b)) (le→nltb 9218868437227405312 (b % 9223372036854775808) h)

nan_is : (x : Float) → T (is_nan x) → x ≡ nan
unfolding is_nan
nan_is nan t = refl
nan_is (inf s) t = absurd t
nan_is (fin s m e) t = absurd t

pub nan_pattern : (b : ℕ) → 2139095040 < b % 2147483648 → of_bits binary32 b ≡ nan
nan_pattern b h = nan_is (of_bits binary32 b) (subst T (sym (nan_bits_above binary32 b) ∙ nan_bits_is binary32 b) (lt→ltb 2139095040 (b % 2147483648) h))

pub zero_by_zero : div binary32 (of_bits binary32 0) (of_bits binary32 0) ≡ nan
unfolding div of_bits
zero_by_zero = refl

pub no_nan : (x : Float) → ne x x ≡ false → T (not (is_nan x))
unfolding is_nan ne
no_nan nan h = subst T h tt
no_nan (inf s) h = tt
no_nan (fin s m e) h = tt

-- ---- a normal value, above 0

differ : (x : ℕ) → suc x < 255 → suc x ≡ 255 → ⊥
differ x h e = omega arith

under_ones : (t x : ℕ) → suc x < 255 → of_fields binary32 false (suc x) t ≡ odd 24 false (8388608 + t) x 149
unfolding of_fields
under_ones t x h =
    cond_no (eqb (suc x) 255) (cond (eqb t 0) (inf false) nan) (odd 24 false (8388608 + t) x 149)
    (not_T (eqb (suc x) 255) (λ (u : T (eqb (suc x) 255)). differ x h (eqb→eq (suc x) 255 u)))

-- the field x + 1, the digits t
pub normal : (x t b : ℕ) → suc x < 255 → t < 8388608 → b ≡ suc x * 8388608 + t → of_bits binary32 b ≡ odd 24 false (8388608 + t) x 149
normal x t b h k e =
    let l : b < 2147483648 = omega arith in
    let f : b % 2147483648 / 8388608 ≡ suc x = omega arith in
    let d : b % 8388608 ≡ t = omega arith in
    of_bits_is b
    ∙ ap (λ (s : Bool). of_fields binary32 s (b % 2147483648 / 8388608) (b % 8388608)) (is_false (leb 2147483648 b) (lt→nleb 2147483648 b l))
    ∙ ap (λ (y : ℕ). of_fields binary32 false y (b % 8388608)) f
    ∙ ap (λ (y : ℕ). of_fields binary32 false (suc x) y) d
    ∙ under_ones t x h

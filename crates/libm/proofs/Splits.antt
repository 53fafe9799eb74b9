-- A number above 0 as m · 2 ^ n, which ln takes apart: m is at least 0.70710677 and less than its double, and the product is exact.
-- By its pattern, too, as the code takes it apart. Assumes nothing.
use Prim.Native.Nat.{◌%◌, ◌*◌, ◌+◌, ◌-◌, ◌/◌, ◌<◌, ◌^◌, ◌≤◌, suc, zero, ℕ}
use lib.Arith.{le→nltb}
use lib.Count.{count_trailing_zeros}
use lib.Dec.{T, leb, leb→le, le→leb, ltb, lt→ltb, nleb→lt, nltb→le, ltb→lt}
use lib.Ieee.{Float, binary32, down, fin, fits, in_float, inf, is_nan, le, lt, minus, nan, odd, of_bits, of_int, round, size, to_bits, up}
use lib.Ieee.Bits.{of_bits-to_bits}
use lib.Ieee.Digits.{back, odd_val, size-lt, size_reaches}
use lib.Ieee.Fits.{down_pos, odd-fits, of_int-fits}
use lib.IntN.{+ℤ_comm, +ℤ-neg_ℤ_cancel, ◌+ℤ◌, ◌-ℤ◌, nat_abs, negsuc, neg_ℤ, pos, pos-ne-negsuc, ℤ}
use lib.Pow.{pow-add, pow_mono, pow_pos, shl_lt}
use mathlib.Core.Bool.{Bool, cond, false, not, true}
use mathlib.Core.Logic.{inl, inr}
use mathlib.Core.Path.{◌∙◌, ◌≡◌, ap, refl, subst, sym}
use mir.Syntax.{w64}
use mir.Val.{SFits}
use native.Mathlib.Nat.{add_assoc, div-one, eq-zero-or-pos, le_antisymm, le_of_eq, le_of_mul-le-mul_right, le_of_suc-le-suc}
use native.Mathlib.Nat.{le_trans, lt_of_mul-lt-mul_right, lt_irrefl, lt_of_lt_of_le, lt_of_not-le, mul-le-mul_right, mul-one}
use native.Mathlib.Nat.{not-le_of_lt, one-mul, zero-add, zero-mul}
use native.Mathlib.Omega.{arith}
use Rattle.float.proofs.Exact.{round-held}
use Rattle.float.proofs.Differences.{minus-down, minus_plus, minus-same, minus-up, sub-minus}
use Rattle.float.proofs.Order.{le→cross, not-lt→le}
use Rattle.float.proofs.Patterns.{normal}
use Rattle.float.specs.Notation.{one}
use Rattle.libm.proofs.Signs.{bits-finite}
use Rattle.libm.proofs.RootValues.{subnormal}
use Rattle.libm.specs.Promises.{Binary, SplitOf}
use Rattle.libm.specs.Log.{exponent_of, least, ln_of, ln_of_parts, mantissa_of, shift}

-- ---- an exponent from -149 to 128 as a float holds it
pub binary-in-float : (n : ℤ) → Binary n → T (in_float binary32 n)
unfolding in_float
binary-in-float (pos n) e = le→leb n (2 ^ 24) (omega (arith, leb→le n 128 e.at_most))
binary-in-float (negsuc j) e = lt→ltb j (2 ^ 24) (omega (arith, leb→le j 148 e.at_least))

-- and as the machine holds it
pub binary-fits : (n : ℤ) → Binary n → SFits w64 n
binary-fits (pos n) e = record { sfits = omega (arith, leb→le n 128 e.at_most) }
binary-fits (negsuc j) e = record { sfits = omega (arith, leb→le j 148 e.at_least) }

-- ---- such an exponent as a difference
minus-binary : (a b : ℕ) → b ≤ a + 149 → a ≤ b + 128 → Binary (minus a b)
minus-binary a b h k = go (leb b a) (leb→le b a) (nleb→lt b a)
  where
    go : (t : Bool) → (T t → b ≤ a) → (T (not t) → a < b) → Binary (cond t (pos (a - b)) (negsuc (b - suc a)))
    go true l g = record { at_least = tt; at_most = le→leb (a - b) 128 (omega arith) }
    go false l g = let u = g tt in record { at_least = le→leb (b - suc a) 148 (omega arith); at_most = tt }

-- ---- w lowered by k binary digits against c / 2 ^ (j + 1)
less-lowered : (w k c j : ℕ) → lt (fin false w (minus 0 k)) (fin false c (negsuc j)) ≡ ltb (w * 2 ^ suc j) (c * 2 ^ k)
unfolding lt
less-lowered w zero c j = ap (λ (x : ℕ). ltb (x * 2 ^ suc j) (c * 1 * 1)) (mul-one w) ∙ ap (λ (x : ℕ). ltb (w * 2 ^ suc j) x) (mul-one (c * 1))
less-lowered w (suc k) c j = rw (minus-down 0 (suc k) (omega arith), same k, mul-one w, mul-one c)
  where
    same : (k : ℕ) → suc (suc k - 1) ≡ suc k
    same k = omega arith

-- ---- m is at least 0.70710677 and less than its double
abbrev pub twice : Float
twice = fin false 11863283 (negsuc 22)

module _ (w : ℕ) (some : 0 < w) where
  size-some : 1 ≤ size w
  size-some = lt_of_not-le (λ (h : size w ≤ 0). not-le_of_lt (size-lt w) (le_trans (pow_mono {i = size w} {j = 0} h) some))

  reaches : 2 ^ (size w - 1) ≤ w
  reaches = size_reaches w (size w - 1) (omega (arith, size-some))

  doubled : 2 ^ size w ≡ 2 ^ (size w - 1) * 2
  doubled = ap (λ (x : ℕ). 2 ^ x) (omega (arith, size-some)) ∙ pow-add 2 (size w - 1) 1

  -- by whether w lowered by its digits is under the least mantissa
  shift_in : (11863283 * 2 ^ shift w ≤ w * 16777216) × (w * 8388608 < 11863283 * 2 ^ shift w)
  unfolding shift round
  shift_in = go (lt (fin false w (minus 0 (size w))) least) (sym (less-lowered w (size w) 11863283 23))
    where
      go : (t : Bool) → ltb (w * 16777216) (11863283 * 2 ^ size w) ≡ t
          → (11863283 * 2 ^ cond t (size w - 1) (size w) ≤ w * 16777216) × (w * 8388608 < 11863283 * 2 ^ cond t (size w - 1) (size w))
      go true h =
          let u = ltb→lt (w * 16777216) (11863283 * 2 ^ size w) (subst T (sym h) tt) in
          (omega (arith, reaches), omega (arith, u, doubled))
      go false h = (nltb→le (w * 16777216) (11863283 * 2 ^ size w) (rw h tt), omega (arith, size-lt w))

  -- there is one such shift only
  closer : (a b : ℕ) → 11863283 * 2 ^ a ≤ w * 16777216 → w * 8388608 < 11863283 * 2 ^ b → a ≤ b
  closer a b h k =
      le_of_suc-le-suc (lt_of_not-le (λ (g : suc b ≤ a). far (2 ^ a) (2 ^ b)
      (le_trans (le_of_eq (sym (pow-add 2 b 1))) (pow_mono (subst (λ (x : ℕ). x ≤ a) (sym (add-one b)) g))) h k))
    where
      add-one : (b : ℕ) → b + 1 ≡ suc b
      add-one b = omega arith

      far : (x y : ℕ) → y * 2 ≤ x → 11863283 * x ≤ w * 16777216 → w * 8388608 < 11863283 * y → ⊥
      far x y g h k = omega arith

  pub shift-only : (k : ℕ) → 11863283 * 2 ^ k ≤ w * 16777216 → w * 8388608 < 11863283 * 2 ^ k → shift w ≡ k
  shift-only k h l = le_antisymm (closer (shift w) k shift_in.0 l) (closer k (shift w) h shift_in.1)

  pub mantissa-in : (e : ℤ) → T (le least (mantissa_of (fin false w e))) × T (lt (mantissa_of (fin false w e)) twice)
  unfolding mantissa_of round
  mantissa-in e =
      let k = shift w in (
        not-lt→le (fin false w (minus 0 k)) least (unfold is_nan in tt) (unfold is_nan round in tt)
            (rw (less-lowered w k 11863283 23) (le→nltb (w * 16777216) (11863283 * 2 ^ k) shift_in.0)),
        rw (less-lowered w k 11863283 22) (lt→ltb (w * 8388608) (11863283 * 2 ^ k) shift_in.1),
      )

-- ---- and the product is exact: 2 ^ n more is n more in the exponent
abbrev pub times-two-to : Float → ℤ → Float
times-two-to nan n = nan
times-two-to (inf s) n = inf s
times-two-to (fin s w e) n = fin s w (e +ℤ n)

below-zero : (k : ℕ) → minus 0 k ≡ neg_ℤ (pos k)
below-zero zero = refl
below-zero (suc k) = minus-down 0 (suc k) (omega arith) ∙ ap negsuc {y = k} (omega arith)

pub split-exact : (v : Float) → times-two-to (mantissa_of v) (exponent_of v) ≡ v
unfolding mantissa_of exponent_of
split-exact nan = refl
split-exact (inf s) = refl
split-exact (fin s w e) =
    let k = pos (shift w) in
    ap (λ (z : ℤ). fin s w z) (ap (λ (z : ℤ). z +ℤ (e +ℤ k)) (below-zero (shift w)) ∙ +ℤ_comm (neg_ℤ k) (e +ℤ k) ∙ +ℤ-neg_ℤ_cancel e k)

-- ---- of q = w · 2 ^ z: the shift is that of q as it stands
shift-at : (q z w k n : ℕ) → 0 < w → w * 2 ^ z ≡ q → 2 ^ k * 2 ^ z ≡ n → 11863283 * n ≤ q * 16777216 → q * 8388608 < 11863283 * n → shift w ≡ k
shift-at q z w k n p e f h l = shift-only w p k (low (2 ^ k) (2 ^ z) e f (pow_pos z)) (high (2 ^ k) (2 ^ z) e f)
  where
    low : (x y : ℕ) → w * y ≡ q → x * y ≡ n → 0 < y → 11863283 * x ≤ w * 16777216
    low x y e f p = le_of_mul-le-mul_right {k = y} (omega arith) p

    high : (x y : ℕ) → w * y ≡ q → x * y ≡ n → w * 8388608 < 11863283 * x
    high x y e f = lt_of_mul-lt-mul_right y (omega arith)

-- ---- the number q · 2 ^ (x - 149)
odd_is : (q x : ℕ) → 0 < q → odd 24 false q x 149 ≡ fin false (q / 2 ^ count_trailing_zeros 24 q) (minus (x + count_trailing_zeros 24 q) 149)
unfolding odd
odd_is zero x p = elim p [ ]
odd_is (suc q) x p = refl

zeros-out : (q : ℕ) → 0 < q → q / 2 ^ count_trailing_zeros 24 q * 2 ^ count_trailing_zeros 24 q ≡ q
unfolding odd
zeros-out zero p = elim p [ ]
zeros-out (suc q) p =
    let z = count_trailing_zeros 24 (suc q) in
    let w = suc q / 2 ^ z in
    let e : w * 2 ^ (0 + z - 0) * 1 ≡ suc q * 1 * 1 = subst (λ (k : ℤ). w * up k * 1 ≡ suc q * 1 * down k) (minus-up (0 + z) 0 (omega arith))
    (odd_val 24 false (suc q) 0 0) in
    ap (λ (x : ℕ). w * 2 ^ x) (same z) ∙ sym (mul-one (w * 2 ^ (0 + z - 0))) ∙ e ∙ mul-one (suc q * 1) ∙ mul-one (suc q)
  where
    same : (z : ℕ) → z ≡ 0 + z - 0
    same z = omega arith

odd-part-some : (q : ℕ) → 0 < q → 0 < q / 2 ^ count_trailing_zeros 24 q
odd-part-some q p = elim (eq-zero-or-pos (q / 2 ^ count_trailing_zeros 24 q)) [
  | inl e ↦ absurd (lt_irrefl 0 (subst (λ (x : ℕ). 0 < x)
      (sym (zeros-out q p) ∙ ap (λ (x : ℕ). x * 2 ^ count_trailing_zeros 24 q) e ∙ zero-mul (2 ^ count_trailing_zeros 24 q)) p))
  | inr h ↦ h
]

ln-some : (w : ℕ) (e : ℤ) → 0 < w → ln_of (fin false w e) ≡ ln_of_parts (mantissa_of (fin false w e)) (exponent_of (fin false w e))
unfolding ln_of
ln-some zero e p = absurd (lt_irrefl 0 p)
ln-some (suc w) e p = refl

ln-odd : (q x : ℕ) → 0 < q → ln_of (odd 24 false q x 149) ≡ ln_of_parts (mantissa_of (odd 24 false q x 149)) (exponent_of (odd 24 false q x 149))
ln-odd q x p = rw (odd_is q x p) (ln-some (q / 2 ^ count_trailing_zeros 24 q) (minus (x + count_trailing_zeros 24 q) 149) (odd-part-some q p))

exponent-at : (q x : ℕ) → 0 < q → exponent_of (odd 24 false q x 149) ≡ minus (x + (count_trailing_zeros 24 q + shift (q / 2 ^ count_trailing_zeros 24 q))) 149
unfolding exponent_of
exponent-at q x p =
    let z = count_trailing_zeros 24 q in
    let k = shift (q / 2 ^ z) in
    ap exponent_of (odd_is q x p) ∙ minus_plus (x + z) 149 k ∙ ap (λ (a : ℕ). minus a 149) (add_assoc x z k)

parts : (q x y : ℕ) → 0 < q → count_trailing_zeros 24 q + shift (q / 2 ^ count_trailing_zeros 24 q) + y ≡ 149
    → (odd 24 false q y 149 ≡ mantissa_of (odd 24 false q x 149)) × (minus x y ≡ exponent_of (odd 24 false q x 149))
unfolding mantissa_of
parts q x y p e =
    let z = count_trailing_zeros 24 q in
    let w = q / 2 ^ z in (
      odd_is q y p ∙ ap (λ (k : ℤ). fin false w k) (minus-same (y + z) 149 0 (shift w) (omega (arith, e))) ∙ sym (ap mantissa_of (odd_is q x p)),
      minus-same x y (x + (z + shift w)) 149 (omega (arith, e)) ∙ sym (exponent-at q x p),
    )

-- ---- by the pattern: 1065353216 is that of 1, 1060439283 that of 0.70710677
abbrev above : ℕ → ℕ
above b = b + 1065353216 - 1060439283

module _ (b : ℕ) (from : 8388608 ≤ b) (under : b < 2139095040) where
  abbrev digits : ℕ
  digits = 8388608 + b % 8388608

  abbrev field : ℕ
  field = b / 8388608 - 1

  abbrev zeros : ℕ
  zeros = count_trailing_zeros 24 digits

  -- 24 digits end in 23 zeros at most
  few : zeros ≤ 23
  few =
      le_of_suc-le-suc (lt_of_not-le (λ (h : 24 ≤ zeros). none (digits / 2 ^ zeros) (2 ^ zeros) (zeros-out digits (omega arith))
      (odd-part-some digits (omega arith)) (pow_mono {i = 24} {j = zeros} h)))
    where
      none : (w y : ℕ) → w * y ≡ digits → 0 < w → 16777216 ≤ y → ⊥
      none w y e p h = omega (arith, mul-le-mul_right y p)

  -- by how much they are lowered to become n / 2 ^ 24
  lowered_by : (k n : ℕ) → zeros ≤ k → 2 ^ k ≡ n → 11863283 * n ≤ digits * 16777216 → digits * 8388608 < 11863283 * n → zeros + shift (digits / 2 ^ zeros) ≡ k
  lowered_by k n f e h l =
      let p = shift-at digits zeros (digits / 2 ^ zeros) (k - zeros) n (odd-part-some digits (omega arith)) (zeros-out digits (omega arith))
      (sym (pow-add 2 (k - zeros) zeros) ∙ ap (λ (x : ℕ). 2 ^ x) (back k zeros f) ∙ e) h l in
      omega (arith, f, p)

  -- y + 1 in the mantissa's field
  split_by : (y : ℕ) → y ≤ 126 → zeros + shift (digits / 2 ^ zeros) + y ≡ 149 → above b % 8388608 + 1060439283 ≡ suc y * 8388608 + b % 8388608
      → above b / 8388608 + y ≡ field + 127 → SplitOf (of_bits binary32 b) (of_bits binary32 (above b % 8388608 + 1060439283)) (minus (above b / 8388608) 127)
  split_by y most z m n =
      let v = normal field (b % 8388608) b (omega arith) (omega arith) (omega arith) in
      let p = parts digits field y (omega arith) z in
      let e : minus (above b / 8388608) 127 ≡ minus field y = minus-same (above b / 8388608) 127 field y n in
      record {
        is-mantissa = normal y (b % 8388608) (above b % 8388608 + 1060439283) (omega arith) (omega arith) m ∙ p.0 ∙ sym (ap mantissa_of v);
        is-exponent = e ∙ p.1 ∙ sym (ap exponent_of v);
        in-range = subst Binary (sym e) (minus-binary field y (omega arith) (omega arith));
      }

  pub split_pattern : SplitOf (of_bits binary32 b) (of_bits binary32 (above b % 8388608 + 1060439283)) (minus (above b / 8388608) 127)
  split_pattern = go (ltb digits 11863283) (ltb→lt digits 11863283) (nltb→le digits 11863283)
    where
      go : (s : Bool) → (T s → digits < 11863283) → (T (not s) → 11863283 ≤ digits)
          → SplitOf (of_bits binary32 b) (of_bits binary32 (above b % 8388608 + 1060439283)) (minus (above b / 8388608) 127)
      go true l g =
          let h = l tt in
          split_by 126 (omega arith) (ap (λ (x : ℕ). x + 126) (lowered_by 23 8388608 few refl (omega arith) (omega arith))) (omega arith) (omega arith)
      go false l g =
          let h = g tt in
          split_by 125 (omega arith) (ap (λ (x : ℕ). x + 125) (lowered_by 24 16777216 (omega (arith, few)) refl (omega arith) (omega arith)))
          (omega arith) (omega arith)

  pub ln-pattern : (m : Float) (n : ℤ) → SplitOf (of_bits binary32 b) m n → ln_of_parts m n ≡ ln_of (of_bits binary32 b)
  ln-pattern m n s =
      let v = normal field (b % 8388608) b (omega arith) (omega arith) (omega arith) in
      rw (s.is-mantissa, s.is-exponent, v) (sym (ln-odd digits field (omega arith)))

-- ---- the pattern of a whole number from 1 on
pattern-from : (w z : ℕ) → 1 ≤ w * 2 ^ z → 8388608 ≤ to_bits binary32 (fin false w (pos z))
unfolding to_bits
pattern-from w z h =
    let n = w * 2 ^ z * 2 ^ 149 / 1 in
    let more : 2 ^ 24 ≤ n = subst (λ (x : ℕ). 2 ^ 24 ≤ x) (sym (div-one (w * 2 ^ z * 2 ^ 149)))
    (le_trans (pow_mono {i = 24} {j = 149} (omega arith))
    (subst (λ (x : ℕ). x ≤ w * 2 ^ z * 2 ^ 149) (one-mul (2 ^ 149)) (mul-le-mul_right (2 ^ 149) h))) in
    total (size n) (n / 2 ^ (size n - 24)) (lt_of_not-le (λ (g : size n ≤ 24). not-le_of_lt (size-lt n) (le_trans (pow_mono g) more)))
  where
    total : (k r : ℕ) → 24 < k → 8388608 ≤ 0 + (k - 24) * 8388608 + r
    total k r g = omega arith

pattern-under : (w : ℕ) (e : ℤ) → 0 < w → T (fits binary32 (fin false w e)) → to_bits binary32 (fin false w e) < 2139095040
pattern-under zero e p h = absurd (lt_irrefl 0 p)
pattern-under (suc w) e p h = bits-finite w e h

-- ---- below the normal range: b · 2 ^ -149
module _ (b : ℕ) (some : 0 < b) (few : b < 8388608) where
  as-whole : odd 24 false b 149 149 ≡ fin false (b / 2 ^ count_trailing_zeros 24 b) (pos (count_trailing_zeros 24 b))
  as-whole =
      let z = count_trailing_zeros 24 b in
      odd_is b 149 some ∙ ap (λ (k : ℤ). fin false (b / 2 ^ z) k) (minus-up (149 + z) 149 (omega arith) ∙ ap pos {y = z} (omega arith))

  held : T (fits binary32 (odd 24 false b 149 149))
  held = odd-fits binary32 24 false b 149 (omega arith) (omega arith) (lt_of_lt_of_le (shl_lt 23 149 few) (pow_mono {i = 172} {j = 277} (omega arith)))

  -- b as a float
  whole_is : of_int binary32 (pos b) ≡ odd 24 false b 149 149
  unfolding of_int
  whole_is =
      let z = count_trailing_zeros 24 b in
      let w = b / 2 ^ z in
      ap (λ (x : ℕ). round binary32 false x 1) (sym (zeros-out b some))
      ∙ round-held binary32 false w (pos z) (subst (λ (x : Float). T (fits binary32 x)) as-whole held) ∙ sym as-whole

  pub whole-number : T (not (is_nan (of_int binary32 (pos b))))
  unfolding is_nan
  whole-number = rw (whole_is ∙ as-whole) tt

  -- whose pattern is in the normal range
  pub whole-pattern : (8388608 ≤ to_bits binary32 (of_int binary32 (pos b))) × (to_bits binary32 (of_int binary32 (pos b)) < 2139095040)
  whole-pattern =
      let z = count_trailing_zeros 24 b in
      let w = b / 2 ^ z in
      let x : of_int binary32 (pos b) ≡ fin false w (pos z) = whole_is ∙ as-whole in
      rw x (
        pattern-from w z (subst (λ (y : ℕ). 1 ≤ y) (sym (zeros-out b some)) some),
        pattern-under w (pos z) (odd-part-some b some) (subst (λ (y : Float). T (fits binary32 y)) as-whole held),
      )

  -- which has the same mantissa, and 149 more in the exponent
  same-mantissa : mantissa_of (of_int binary32 (pos b)) ≡ mantissa_of (of_bits binary32 b)
  unfolding mantissa_of
  same-mantissa = ap mantissa_of (whole_is ∙ odd_is b 149 some) ∙ sym (ap mantissa_of (subnormal b few ∙ odd_is b 0 some))

  abbrev up_to : ℕ
  up_to = count_trailing_zeros 24 b + shift (b / 2 ^ count_trailing_zeros 24 b)

  whole-exponent : exponent_of (of_int binary32 (pos b)) ≡ pos up_to
  whole-exponent = ap exponent_of whole_is ∙ exponent-at b 149 some ∙ minus-up (149 + up_to) 149 (omega arith) ∙ ap pos {y = up_to} (omega arith)

  lowered-exponent : exponent_of (of_int binary32 (pos b)) -ℤ pos 149 ≡ exponent_of (of_bits binary32 b)
  lowered-exponent =
      ap (λ (z : ℤ). z -ℤ pos 149) whole-exponent
      ∙ sub-minus up_to 149
      ∙ ap (λ (a : ℕ). minus a 149) (sym (zero-add up_to))
      ∙ sym (ap exponent_of (subnormal b few) ∙ exponent-at b 0 some)

  pub ln-below : (m : Float) (n : ℤ) → SplitOf (of_int binary32 (pos b)) m n → ln_of_parts m (n -ℤ pos 149) ≡ ln_of (of_bits binary32 b)
  ln-below m n s =
      rw (s.is-mantissa, s.is-exponent, lowered-exponent, same-mantissa)
      (sym (ap ln_of (subnormal b few) ∙ ln-odd b 0 some ∙ ap (λ (x : Float). ln_of_parts (mantissa_of x) (exponent_of x)) (sym (subnormal b few))))

  pub lowered-binary : (m : Float) (n : ℤ) → SplitOf (of_int binary32 (pos b)) m n → Binary (n -ℤ pos 149)
  lowered-binary m n s =
      let e = s.is-exponent ∙ whole-exponent in
      let h = leb→le up_to 128 (subst Binary e s.in-range).at_most in
      subst Binary (sym (ap (λ (z : ℤ). z -ℤ pos 149) e ∙ sub-minus up_to 149)) (minus-binary up_to 149 (omega arith) (omega arith))

-- ---- of every number above 0 the exponent is from -149 to 128
normal-exponent : (b : ℕ) → 8388608 ≤ b → b < 2139095040 → Binary (exponent_of (of_bits binary32 b))
normal-exponent b lo hi = let s = split_pattern b lo hi in subst Binary s.is-exponent s.in-range

below-exponent : (b : ℕ) → 0 < b → b < 8388608 → Binary (exponent_of (of_bits binary32 b))
below-exponent b lo hi =
    let x = of_int binary32 (pos b) in
    let p = whole-pattern b lo hi in
    let e = split_pattern (to_bits binary32 x) p.0 p.1 in
    let s : SplitOf x (mantissa_of x) (exponent_of x) =
    record {
      is-mantissa = refl;
      is-exponent = refl;
      in-range = subst (λ (y : Float). Binary (exponent_of y)) (of_bits-to_bits binary32 x (of_int-fits binary32 (pos b)))
          (subst Binary e.is-exponent e.in-range);
    } in
    subst Binary (lowered-exponent b lo hi) (lowered-binary b lo hi (mantissa_of x) (exponent_of x) s)

pub exponent-in : (b : ℕ) → 0 < b → b < 2139095040 → Binary (exponent_of (of_bits binary32 b))
exponent-in b lo hi = go (ltb b 8388608) (ltb→lt b 8388608) (nltb→le b 8388608)
  where
    go : (t : Bool) → (T t → b < 8388608) → (T (not t) → 8388608 ≤ b) → Binary (exponent_of (of_bits binary32 b))
    go true l g = below-exponent b lo (l tt)
    go false l g = normal-exponent b (g tt) hi

-- ---- of a number up to 1 the exponent is not above 0

-- 2 ^ e times 2 ^ k is 2 ^ i, as fractions
raised : (e : ℤ) (k i : ℕ) → e +ℤ pos k ≡ pos i → up e * 2 ^ k ≡ 2 ^ i * down e
raised (pos a) k i h = sym (pow-add 2 a k) ∙ ap (λ (x : ℕ). 2 ^ x) (ap nat_abs h) ∙ sym (mul-one (2 ^ i))
raised (negsuc j) k i h = one-mul (2 ^ k) ∙ ap (λ (x : ℕ). 2 ^ x) (go (ltb k (suc j)) (nltb→le k (suc j)) h) ∙ pow-add 2 i (suc j)
  where
    go : (t : Bool) → (T (not t) → suc j ≤ k) → cond t (negsuc (suc j - suc k)) (pos (k - suc j)) ≡ pos i → k ≡ i + suc j
    go true l e = absurd (pos-ne-negsuc i (suc j - suc k) (sym e))
    go false l e = let u = l tt in let n = ap nat_abs e in omega arith

-- so w · 2 ^ e up to 1, which is w / K times I, is no mantissa times 2 or more
not-above : (w K U D I : ℕ) → 0 < D → 2 ≤ I → U * K ≡ I * D → w * U * 1 + 0 * D ≤ 1 * D + 0 * 1 → 11863283 * K ≤ w * 16777216 → ⊥
not-above w K U D I p t e h m = omega (arith, mul-le-mul_right U m, mul-le-mul_right D t)

pub up-to-one : (w : ℕ) (e : ℤ) (i : ℕ) → 0 < w → T (le (fin false w e) one) → exponent_of (fin false w e) ≡ pos i → i ≡ 0
unfolding exponent_of
up-to-one w e zero p h n = refl
up-to-one w e (suc i) p h n =
    absurd (not-above w (2 ^ shift w) (up e) (down e) (2 ^ suc i) (down_pos e) (pow_mono {i = 1} {j = suc i} (omega arith))
    (raised e (shift w) (suc i) n) (le→cross (fin false w e) one tt tt h) (shift_in w p).0)

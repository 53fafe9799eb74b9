-- Where ln lies for a number up to 1: above -104, not above 0, and below 0 where the number is below 1. Each operation is monotone,
-- and what is asked of the ends of each interval is computed. Assumes nothing.
use Prim.Native.Nat as Nat
use Prim.Native.Nat.{◌%◌, ◌*◌, ◌<◌, ◌^◌, ◌≤◌, suc, ℕ}
use lib.Dec.{T, eqb, leb, leb→le, ltb, ltb→lt, nleb→lt}
use lib.Ieee.{Float, add, binary32, div, down, eq, fin, fits, inf, le, lt, mul, nan, neg, of_bits, of_int, round, size, sub, to_bits, up}
use lib.Ieee.Bits.{of_bits-to_bits}
use lib.Ieee.Fits.{and_l, and_r}
use lib.Ieee.Positive.{between, den, den_pos, positive, positive-finite}
use lib.Ieee.Scale.{finite}
use lib.IntN.{+ℤ_idr, negsuc, pos, ℤ}
use lib.Pow.{pow_pos}
use mathlib.Core.Bool.{Bool, ◌&&◌, false, not, true}
use mathlib.Core.List.{List, [], ◌∷◌}
use mathlib.Core.Logic.{inl, inr}
use mathlib.Core.Path.{◌∙◌, ◌≡◌, ap, refl, subst, sym}
use native.Mathlib.Nat.{mul-le-mul_right, mul-pos, zero-lt-suc, zero-mul}
use native.Mathlib.Omega.{arith}
use Rattle.float.proofs.Exact.{rounds-ge, rounds-le}
use Rattle.float.proofs.Interval.{add-in, div-in, mul_in, plus-in, scale_in, sub_in, within-finite, within_wider}
use Rattle.float.proofs.Order.{Cross, cross→le, le-lt, le-neg, le-or-ge, le-trans-float, le→cross, lt-le, lt→le, nn, pp}
use Rattle.float.proofs.Rounding.{add-mono-l, div-rounds, mul-anti-r, mul-mono-l, mul-mono-r, pp-pos, positive-no-minus, sub-mono}
use Rattle.float.proofs.Sign.{mul-comm-exact}
use Rattle.float.proofs.Sizes.{above, neg-mul-neg}
use Rattle.float.proofs.Tests.{All, allb, all→, every_below, every_below→}
use Rattle.float.proofs.Zeros.{plus-above}
use Rattle.float.specs.Interval.{Within}
use Rattle.float.specs.Notation.{half, zero, one, rounded, two}
use Rattle.libm.proofs.Range.{minus_half, stage, stage-test}
use Rattle.libm.proofs.Signs.{bits-finite, bits_pos}
use Rattle.libm.proofs.Splits.{exponent-in, mantissa-in, split-exact, times-two-to, twice, up-to-one}
use Rattle.libm.specs.Promises.{Binary}
use Rattle.libm.specs.Exp.{horner}
use Rattle.libm.specs.Log.{exponent_of, least, ln2, ln_near, ln_of, ln_of_parts, mantissa_of, shift, ratio, log_series}

-- parts of 1
abbrev quarter : Float
quarter = fin false 1 (negsuc 1)

abbrev minus_quarter : Float
minus_quarter = fin true 1 (negsuc 1)

abbrev sixteenth : Float
sixteenth = fin false 1 (negsuc 3)

-- ---- (m - 1) / (m + 1) is from -1 / 4 to 1 / 4: m - 1 is from -27 / 64 to 27 / 64, and m + 1 at least 27 / 16
quotient-in : (x y : Float) → T (positive y) → Within (fin true 27 (negsuc 5)) (fin false 27 (negsuc 5)) x → T (le (fin false 27 (negsuc 3)) y)
    → Within minus_quarter quarter (div binary32 x y)
quotient-in x y q w h =
    let p = within-finite (fin true 27 (negsuc 5)) (fin false 27 (negsuc 5)) x tt tt w in
    let c = mul-pos (pp-pos y q) (den_pos x) in
    let r = div-rounds binary32 x y p q in
    let n = positive-no-minus y q in
    let k = le→cross (fin false 27 (negsuc 3)) y tt (positive-finite y q) h in
    record {
      at_least =
          rounds-ge binary32 (div binary32 x y) minus_quarter (pp x * den y) (nn x * den y) (pp y * den x) tt (unfold fits in tt) c r
          (low (pp x) (nn x) (den x) (pp y) (nn y) (den y) n (le→cross (fin true 27 (negsuc 5)) x tt p w.at_least) k);
      at_most =
          rounds-le binary32 (div binary32 x y) quarter (pp x * den y) (nn x * den y) (pp y * den x) tt (unfold fits in tt) c r
          (high (pp x) (nn x) (den x) (pp y) (nn y) (den y) n (le→cross x (fin false 27 (negsuc 5)) p tt w.at_most) k);
    }
  where
    low : (P N D q n d : ℕ) → n ≡ 0 → Cross 0 27 64 P N D → Cross 27 0 16 q n d → Cross 0 1 4 (P * d) (N * d) (q * D)
    low P N D q n d e h k = omega (arith, mul-le-mul_right d h, mul-le-mul_right D k)

    high : (P N D q n d : ℕ) → n ≡ 0 → Cross P N D 27 0 64 → Cross 27 0 16 q n d → Cross (P * d) (N * d) (q * D) 1 0 4
    high P N D q n d e h k = omega (arith, mul-le-mul_right d h, mul-le-mul_right D k)

sum-in : (m : Float) → Within least twice m → Within (fin false 27 (negsuc 3)) (fin false 5 (negsuc 0)) (add binary32 m one)
unfolding round
sum-in m w =
    within_wider (add binary32 least one) (add binary32 twice one) (fin false 27 (negsuc 3)) (fin false 5 (negsuc 0)) (add binary32 m one)
    (unfold le add round in tt) (unfold le add round in tt) (plus-in binary32 one least twice m tt tt tt w)

sum-positive : (m : Float) → Within least twice m → T (positive (add binary32 m one))
sum-positive m w = let v = sum-in m w in between (fin false 27 (negsuc 3)) (add binary32 m one) (fin false 5 (negsuc 0)) tt tt v.at_least v.at_most

difference-in : (m : Float) → Within least twice m → Within (fin true 27 (negsuc 5)) (fin false 27 (negsuc 5)) (sub binary32 m one)
unfolding round
difference-in m w =
    within_wider (sub binary32 least one) (sub binary32 twice one) (fin true 27 (negsuc 5)) (fin false 27 (negsuc 5)) (sub binary32 m one)
    (unfold le sub round in tt) (unfold le sub round in tt) (sub_in binary32 one least twice m tt tt tt w)

ratio-in : (m : Float) → Within least twice m → Within minus_quarter quarter (ratio m)
unfolding ratio
ratio-in m w = quotient-in (sub binary32 m one) (add binary32 m one) (sum-positive m w) (difference-in m w) (sum-in m w).at_least

-- ---- the series, for z from 0 to 1 / 16
last-in : (z : Float) → Within zero sixteenth z → Within zero quarter (add binary32 (rounded 1 7) (div binary32 z (rounded 9 1)))
unfolding round
last-in z w =
    let q : Within zero (div binary32 sixteenth (rounded 9 1)) (div binary32 z (rounded 9 1)) = div-in binary32 sixteenth z (rounded 9 1)
    (rounded 9 1) tt tt tt (unfold fits in tt) w (unfold le round in tt) in
    within_wider (add binary32 (rounded 1 7) zero) (add binary32 (rounded 1 7) (div binary32 sixteenth (rounded 9 1))) zero quarter
    (add binary32 (rounded 1 7) (div binary32 z (rounded 9 1))) (unfold le add round in tt) (unfold le add div round in tt)
    (add-in binary32 (rounded 1 7) zero (div binary32 sixteenth (rounded 9 1)) (div binary32 z (rounded 9 1)) tt tt (unfold div round in tt) q)

log-series-in : (z : Float) → Within zero sixteenth z → Within one (fin false 21 (negsuc 3)) (log_series z)
unfolding log_series horner round
log-series-in z w =
    let v = within_wider zero sixteenth minus_half half z (unfold le in tt) (unfold le in tt) w in
    let q = add binary32 (rounded 1 7) (div binary32 z (rounded 9 1)) in
    let inner : Within zero (fin false 5 (negsuc 2)) (horner z (rounded 1 3) (horner z (rounded 1 5) q)) =
    stage z (rounded 1 3) (horner z (rounded 1 5) q) (fin false 3 (negsuc 2)) (fin false 5 (negsuc 2)) (unfold stage-test mul add round in tt) v
    (stage z (rounded 1 5) q quarter (fin false 3 (negsuc 2)) (unfold stage-test mul add round in tt) v (last-in z w)) in
    let t = mul binary32 z (horner z (rounded 1 3) (horner z (rounded 1 5) q)) in
    within_wider (add binary32 one zero) (add binary32 one (fin false 5 (negsuc 6))) one (fin false 21 (negsuc 3)) (add binary32 one t)
    (unfold le add round in tt) (unfold le add round in tt)
    (add-in binary32 one zero (fin false 5 (negsuc 6)) t tt tt tt
    (unfold mul round in mul_in binary32 zero sixteenth z (fin false 5 (negsuc 2)) (horner z (rounded 1 3) (horner z (rounded 1 5) q)) tt tt tt
    (unfold le in tt) (unfold le in tt) w inner))

-- ---- 2 * s * series (s * s), for s from -1 / 4 to 1 / 4
root_in : (s : Float) → Within zero quarter s → Within zero sixteenth (mul binary32 s s)
unfolding mul round
root_in s w = mul_in binary32 zero quarter s quarter s tt tt tt (unfold le in tt) (unfold le in tt) w w

square-in : (s : Float) → Within minus_quarter quarter s → Within zero sixteenth (mul binary32 s s)
square-in s w = elim (le-or-ge zero s tt (within-finite minus_quarter quarter s tt tt w)) [
  | inl h ↦ root_in s (record { at_least = h; at_most = w.at_most })
  | inr h ↦ subst (Within zero sixteenth) (neg-mul-neg s s)
      (root_in (neg s) (unfold neg in record { at_least = above s h; at_most = le-neg minus_quarter s w.at_least }))
]

double-in : (s : Float) → Within minus_quarter quarter s → Within minus_half half (mul binary32 two s)
unfolding mul round
double-in s w = rw (mul-comm-exact binary32 two s) (scale_in binary32 two minus_quarter quarter s tt (unfold le in tt) tt tt w)

abbrev bound : Float
bound = fin false 21 (negsuc 4)

abbrev minus_bound : Float
minus_bound = fin true 21 (negsuc 4)

near-in : (m : Float) → Within least twice m → Within minus_bound bound (ln_near m)
unfolding ln_near
near-in m w =
    let s = ratio-in m w in
    let q = log-series-in (mul binary32 (ratio m) (ratio m)) (square-in (ratio m) s) in
    unfold mul round in mul_in binary32 minus_half half (mul binary32 two (ratio m)) (fin false 21 (negsuc 3))
    (log_series (mul binary32 (ratio m) (ratio m))) tt tt tt (unfold le in tt) (unfold le in tt) (double-in (ratio m) s)
    (within_wider one (fin false 21 (negsuc 3)) zero (fin false 21 (negsuc 3)) (log_series (mul binary32 (ratio m) (ratio m))) (unfold le in tt)
    (unfold le in tt) q)

-- ---- a quotient by at most 2 of what is not above -2 * b is not above -b, for b = k * 2 ^ e
quotient-below : (k : ℕ) (e : ℤ) (x y : Float) → T (finite x) → T (positive y) → T (le y two) → T (fits binary32 (fin true k e))
    → T (le x (fin true (k * 2) e)) → T (le (div binary32 x y) (fin true k e))
quotient-below k e x y p q l f h =
    rounds-le binary32 (div binary32 x y) (fin true k e) (pp x * den y) (nn x * den y) (pp y * den x) tt f (mul-pos (pp-pos y q) (den_pos x))
    (div-rounds binary32 x y p q)
    (flat (pp x) (nn x) (den x) (pp y) (nn y) (den y) k (up e) (down e) (le→cross x (fin true (k * 2) e) p tt h)
    (le→cross y two (positive-finite y q) tt l) (positive-no-minus y q))
  where
    flat : (P N D q n d k u g : ℕ) → Cross P N D 0 (k * 2 * u) g → Cross q n d 2 0 1 → n ≡ 0 → Cross (P * d) (N * d) (q * D) 0 (k * u) g
    flat P N D q n d k u g h l e = let l' : q ≤ 2 * d = omega arith in omega (arith, mul-le-mul_right d h, mul-le-mul_right (k * u * D) l')

-- so for m up to h ≤ 1 with h - 1 not above -2 * b the ratio is not above -b
below-twice : (h m : Float) → T (le h one) → Within least h m → Within least twice m
unfolding round
below-twice h m o w = within_wider least h least twice m (unfold le round in tt) (le-trans-float h one twice o (unfold le in tt)) w

ratio-below : (k : ℕ) (e : ℤ) (h m : Float) → T (finite h) → T (le h one) → T (fits binary32 (fin true k e))
    → T (le (sub binary32 h one) (fin true (k * 2) e)) → Within least h m → T (le (ratio m) (fin true k e))
unfolding ratio
ratio-below k e h m p o f l w =
    let v = below-twice h m o w in
    let m-fin : T (finite m) = unfold round in within-finite least h m tt p w in
    quotient-below k e (sub binary32 m one) (add binary32 m one)
    (within-finite (fin true 27 (negsuc 5)) (fin false 27 (negsuc 5)) (sub binary32 m one) tt tt (difference-in m v)) (sum-positive m v)
    (unfold add round in add-mono-l binary32 m one one m-fin tt tt (le-trans-float m h one w.at_most o)) f
    (le-trans-float (sub binary32 m one) (sub binary32 h one) (fin true (k * 2) e)
    (sub-mono binary32 m h one one m-fin p tt tt w.at_most (unfold le in tt)) l)

-- and ln m not above the double of any b that is not below the ratio and not above 0
near-below : (m b : Float) → Within least twice m → T (finite b) → T (finite (mul binary32 two b)) → T (le (mul binary32 two b) zero)
    → T (le (ratio m) b) → T (le (ln_near m) (mul binary32 (mul binary32 two b) one))
unfolding ln_near
near-below m b w p d o h =
    let s = ratio-in m w in
    let z = mul binary32 (ratio m) (ratio m) in
    let q = log-series-in z (square-in (ratio m) s) in
    let r = within-finite minus_quarter quarter (ratio m) tt tt s in
    let x = within-finite minus_half half (mul binary32 two (ratio m)) tt tt (double-in (ratio m) s) in
    let y = within-finite one (fin false 21 (negsuc 3)) (log_series z) tt tt q in
    le-trans-float (ln_near m) (mul binary32 (mul binary32 two b) (log_series z)) (mul binary32 (mul binary32 two b) one)
    (mul-mono-l binary32 (mul binary32 two (ratio m)) (mul binary32 two b) (log_series z) x d y
    (le-trans-float zero one (log_series z) (unfold le in tt) q.at_least) (mul-mono-r binary32 two (ratio m) b tt r p (unfold le in tt) h))
    (mul-anti-r binary32 (mul binary32 two b) (log_series z) one d y tt o q.at_least)

near-not-above : (m : Float) → Within least one m → T (le (ln_near m) (fin true 0 (pos 0)))
unfolding mul round
near-not-above m w =
    near-below m (fin true 0 (pos 0)) (below-twice one m (unfold le in tt) w) tt tt (unfold le in tt)
    (ratio-below 0 (pos 0) one m tt (unfold le in tt) (unfold fits in tt) (unfold le sub round in tt) w)

-- the largest number below 1
abbrev pub below_one : Float
below_one = fin false 16777215 (negsuc 23)

near-under : (m : Float) → Within least below_one m → T (le (ln_near m) (fin true 1 (negsuc 23)))
unfolding mul round
near-under m w =
    near-below m (fin true 1 (negsuc 24)) (below-twice below_one m (unfold le in tt) w) tt tt (unfold le in tt)
    (ratio-below 1 (negsuc 24) below_one m tt (unfold le in tt) (unfold fits in tt) (unfold le sub round in tt) w)

-- ---- with n * ln 2 added, for n = -(j + 1): what is asked of the ends is computed at each j
abbrev pub minus104 : Float
minus104 = neg (rounded 104 1)

abbrev part : ℕ → Float
part j = mul binary32 (of_int binary32 (negsuc j)) ln2

abbrev tests : ℕ → List Bool
tests j =
    finite (part j) ∷ finite (add binary32 minus_bound (part j)) ∷ finite (add binary32 bound (part j)) ∷ lt minus104
    (add binary32 minus_bound (part j)) ∷ lt (add binary32 bound (part j)) zero ∷ []

unfoldable ends : ℕ → Bool
ends j = allb (tests j)

all-ends : T (every_below ends 149)
unfolding every_below ends mul add lt neg of_int round
all-ends = tt

ends_of : (j : ℕ) → j < 149 → All (tests j)
unfolding ends
ends_of j l = all→ (tests j) (every_below→ ends 149 all-ends j l)

pub parts_in : (m : Float) (j : ℕ) → Within least twice m → j < 149 → T (lt minus104 (ln_of_parts m (negsuc j))) × T (lt (ln_of_parts m (negsuc j)) zero)
unfolding ln_of_parts
parts_in m j w l =
    let t = ends_of j l in
    let lo = add binary32 minus_bound (part j) in
    let hi = add binary32 bound (part j) in
    let x = add binary32 (ln_near m) (part j) in
    let v = plus-in binary32 (part j) minus_bound bound (ln_near m) t.0 tt tt (near-in m w) in
    let p = within-finite lo hi x t.1.0 t.1.1.0 v in
    (lt-le minus104 lo x (unfold neg round in tt) t.1.0 p t.1.1.1.0 v.at_least, le-lt x hi zero p t.1.1.0 tt v.at_most t.1.1.1.1.0)

-- ---- for n = 0 nothing is added
here_in : (m hi : Float) → T (finite hi) → Within least one m → T (le (ln_near m) hi) → Within minus_bound (add binary32 hi zero) (ln_of_parts m (pos 0))
unfolding ln_of_parts mul add of_int round
here_in m hi p w h =
    plus-in binary32 zero minus_bound hi (ln_near m) tt tt p
    (record { at_least = (near-in m (below-twice one m (unfold le in tt) w)).at_least; at_most = h })

pub parts-here : (m : Float) → Within least one m → T (lt minus104 (ln_of_parts m (pos 0))) × T (le (ln_of_parts m (pos 0)) zero)
parts-here m w =
    let v : Within minus_bound zero (ln_of_parts m (pos 0)) = unfold add round in here_in m (fin true 0 (pos 0)) tt w (near-not-above m w) in (
      lt-le minus104 minus_bound (ln_of_parts m (pos 0)) (unfold neg round in tt) tt (within-finite minus_bound zero (ln_of_parts m (pos 0)) tt tt v)
          (unfold lt neg round in tt) v.at_least,
      v.at_most,
    )

pub parts_below : (m : Float) → Within least below_one m → T (lt (ln_of_parts m (pos 0)) zero)
parts_below m w =
    let v : Within minus_bound (fin true 1 (negsuc 23)) (ln_of_parts m (pos 0)) = unfold add round in
    here_in m (fin true 1 (negsuc 23)) tt (within_wider least below_one least one m (unfold le round in tt) (unfold le in tt) w)
    (near-under m w) in
    le-lt (ln_of_parts m (pos 0)) (fin true 1 (negsuc 23)) zero (within-finite minus_bound (fin true 1 (negsuc 23)) (ln_of_parts m (pos 0)) tt tt v) tt tt
    v.at_most (unfold lt in tt)

-- ---- ln of a number above 0 and up to 1, by its mantissa and its exponent
unit : (m : Float) → T (le least m) → T (lt m twice) → Within least twice m
unit m a b = record { at_least = a; at_most = lt→le m twice b }

-- with the exponent 0 it is its own mantissa
own-mantissa : (v : Float) → exponent_of v ≡ pos 0 → mantissa_of v ≡ v
own-mantissa v h = sym (idle (mantissa_of v)) ∙ ap (times-two-to (mantissa_of v)) (sym h) ∙ split-exact v
  where
    idle : (x : Float) → times-two-to x (pos 0) ≡ x
    idle nan = refl
    idle (inf s) = refl
    idle (fin s w e) = ap (λ (z : ℤ). fin s w z) (+ℤ_idr e)

module _ (w : ℕ) (e : ℤ) (f : T (fits binary32 (fin false (suc w) e))) where
  abbrev v : Float
  v = fin false (suc w) e

  in-unit : Within least twice (mantissa_of v)
  in-unit = let m = mantissa-in (suc w) (zero-lt-suc w) e in unit (mantissa_of v) m.0 m.1

  exponent-here : Binary (exponent_of v)
  exponent-here =
      subst (λ (x : Float). Binary (exponent_of x)) (of_bits-to_bits binary32 v f)
      (exponent-in (to_bits binary32 v) (bits_pos v f (unfold of_bits in plus-above w e)) (bits-finite w e f))

  -- P holds of ln v if it holds where the exponent is below 0, and where it is 0 and v its own mantissa
  by-exponent : (P : Float → Type 0) → T (le v one) → ((j : ℕ) → j < 149 → P (ln_of_parts (mantissa_of v) (negsuc j)))
      → (T (le least v) → P (ln_of_parts v (pos 0))) → P (ln_of v)
  unfolding ln_of
  by-exponent P h below here = go (exponent_of v) refl exponent-here
    where
      go : (n : ℤ) → exponent_of v ≡ n → Binary n → P (ln_of_parts (mantissa_of v) (exponent_of v))
      go (negsuc j) n r = rw n (below j (omega (arith, leb→le j 148 r.at_least)))
      go (pos i) n r =
          let z : exponent_of v ≡ pos 0 = n ∙ ap pos (up-to-one (suc w) e i (zero-lt-suc w) h n) in
          rw (z, own-mantissa v z) (here (subst (λ (x : Float). T (le least x)) (own-mantissa v z) in-unit.at_least))

pub of_positive : (P : Float → Type 0) → ((w : ℕ) (e : ℤ) → P (fin false (suc w) e)) → (x : Float) → T (lt zero x) → T (le x one) → P x
unfolding lt le eq
of_positive P a nan p h = absurd p
of_positive P a (inf true) p h = absurd p
of_positive P a (inf false) p h = absurd h
of_positive P a (fin true Nat.zero e) p h = absurd p
of_positive P a (fin false Nat.zero e) p h = absurd (simp zero-mul at p)
of_positive P a (fin true (suc w) e) p h = absurd p
of_positive P a (fin false (suc w) e) p h = a w e

pub ln-in : (x : Float) → T (fits binary32 x) → T (lt zero x) → T (le x one) → T (lt minus104 (ln_of x)) × T (le (ln_of x) zero)
ln-in x f p h = of_positive (λ (y : Float). T (fits binary32 y) → T (le y one) → T (lt minus104 (ln_of y)) × T (le (ln_of y) zero)) go x p h f h
  where
    go : (w : ℕ) (e : ℤ) → T (fits binary32 (fin false (suc w) e)) → T (le (fin false (suc w) e) one) → T (lt minus104 (ln_of (fin false (suc w) e)))
        × T (le (ln_of (fin false (suc w) e)) zero)
    go w e f h =
        let m = mantissa_of (fin false (suc w) e) in
        by-exponent w e f (λ (y : Float). T (lt minus104 y) × T (le y zero)) h
        (λ j l. let a = parts_in m j (in-unit w e f) l in (a.0, lt→le (ln_of_parts m (negsuc j)) zero a.1))
        (λ g. parts-here (fin false (suc w) e) (record { at_least = g; at_most = h }))

-- ---- it is 0 at 1 only
pub ln-one : ln_of one ≡ zero
unfolding ln_of ln_of_parts ln_near ratio log_series horner mantissa_of exponent_of shift size lt add sub mul div of_int round
ln-one = refl

under_one : (w : ℕ) (e : ℤ) → T (fits binary32 (fin false (suc w) e)) → T (lt (fin false (suc w) e) one) → T (le (fin false (suc w) e) below_one)
unfolding lt fits
under_one w (pos a) f h = absurd (none (suc w * 2 ^ a) (mul-pos (zero-lt-suc w) (pow_pos a)) (ltb→lt (suc w * 2 ^ a * 1) 1 h))
  where
    none : (x : ℕ) → 0 < x → x * 1 < 1 → ⊥
    none x p l = omega arith
under_one w (negsuc j) f h =
    let a : Bool = eqb (suc w % 2) 1 in
    let b : Bool = ltb (suc w) 16777216 in
    let c : Bool = leb (2 ^ suc j) (2 ^ 149) in
    let few : suc w < 16777216 = ltb→lt (suc w) 16777216 (and_r a b (and_l (a && b) c (and_l (a && b && c) (ltb (suc w * 1) (2 ^ 128 * 2 ^ suc j)) f))) in
    cross→le (fin false (suc w) (negsuc j)) below_one tt tt
    (flat (suc w) (2 ^ suc j) few (ltb→lt (suc w * 1 * 1) (1 * 2 ^ suc j) h) (leb (2 ^ suc j) 16777216) (leb→le (2 ^ suc j) 16777216)
    (nleb→lt (2 ^ suc j) 16777216))
  where
    flat : (w d : ℕ) → w < 16777216 → w * 1 * 1 < 1 * d → (t : Bool) → (T t → d ≤ 16777216) → (T (not t) → 16777216 < d) → Cross (w * 1) 0 d 16777215 0 16777216
    flat w d a b true l g = let u = l tt in omega arith
    flat w d a b false l g = let u = g tt in omega arith

pub ln-below-one : (x : Float) → T (fits binary32 x) → T (lt zero x) → T (lt x one) → T (lt (ln_of x) zero)
ln-below-one x f p h = of_positive (λ (y : Float). T (fits binary32 y) → T (lt y one) → T (lt (ln_of y) zero)) go x p (lt→le x one h) f h
  where
    go : (w : ℕ) (e : ℤ) → T (fits binary32 (fin false (suc w) e)) → T (lt (fin false (suc w) e) one) → T (lt (ln_of (fin false (suc w) e)) zero)
    go w e f h =
        let v = fin false (suc w) e in
        by-exponent w e f (λ (y : Float). T (lt y zero)) (lt→le v one h) (λ j l. (parts_in (mantissa_of v) j (in-unit w e f) l).1)
        (λ g. parts_below v (record { at_least = g; at_most = under_one w e f h }))

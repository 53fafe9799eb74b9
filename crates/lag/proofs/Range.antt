-- Where the lag leaves its values, with the rounding: for a step and a time constant of an accepted tick the factor lies in 0..1,
-- and then a value in 0..1, or in -1..1, stays
-- there for every command, NaN and infinities included. At the ends: v + (1 - v) rounds to 1 at most, a tie to the even. Assumes nothing.
use Prim.Native.Nat.{◌*◌, ◌+◌, ◌<◌, ◌^◌, ◌≤◌, ℕ}
use lib.Dec.{T, ltb, ltb→lt, nltb→le}
use lib.Ieee.{Float, add, binary32, div, fin, fits, inf, le, lt, mul, nan, ne, neg, round, sub}
use lib.Ieee.Exact.{HasValue}
use lib.Ieee.Fits.{add-fits, neg-fits, sub-fits}
use lib.Ieee.Positive.{between, den, den_pos}
use lib.Ieee.Scale.{finite, grid, round_under, round_val}
use lib.IntN.{pos}
use lib.Pow.{pow_pos}
use mathlib.Core.Bool.{Bool, cond, false, not, true}
use mathlib.Core.Logic.{◌⊎◌, inl, inr}
use mathlib.Core.Path.{◌≡◌, ap, refl, subst, sym}
use native.Mathlib.Nat.{le_of_mul-le-mul_right, mul-le-mul_right, mul-lt-mul_of_pos_right, mul-pos, one-mul}
use native.Mathlib.Omega.{arith}
use Rattle.float.proofs.Exact.{mul-shrinks, mul-shrinks-up, rounds-ge}
use Rattle.float.proofs.HalfUnit.{grid-near}
use Rattle.float.proofs.Integers.{small}
use Rattle.float.proofs.Interval.{div-in, from_in, mul-not-neg, mul-not-pos, within-finite, within-num, within_wider}
use Rattle.float.proofs.Order.{Cross, cross→le, finite-between, finite_number, le-neg, le-or-ge, le-self, le-trans-float, nn}
use Rattle.float.proofs.Order.{not-lt→le, over-le, pp, same_number}
use Rattle.float.proofs.Rounding.{Parts, Rounds, add-mono, add-mono-r, add_rounds, neg-add, neg-finite, parts-of, rounds-mono, sub-mono, sub-rounds}
use Rattle.float.proofs.Sign.{neg-neg, round-minus, round-over}
use Rattle.float.proofs.Zeros.{div-neg-left}
use Rattle.float.specs.Interval.{Within}
use Rattle.float.specs.Notation.{◌⊖◌, ◌⊗◌, ◌⊘◌, clamp, minus_one, zero, one, rounded}
use Rattle.libm.proofs.Range.{exp_in}
use Rattle.libm.specs.Exp.{exp_of, lowest}
use Rattle.lag.specs.Lag.{approach_of, approach_saturated, factor_of, saturated, step_least, step_most}

-- ---- v + z at most 1, z below 2: then v + z', where z' is z rounded, rounds to 1 at most, since z' is above z by 2 ^ -24 at most
final : (P N w D Y Z g k c K : ℕ) → 0 < c → 0 < K → Y * (K * 8388608) ≡ g * D → g * c * 2 ≤ k * (K * 8388608) * 2 + c * K → P * c + k * w ≤ w * c + N * c
    → (P * D + Y * w) * 16777216 ≤ 16777217 * (w * D) + (N * D + Z * w) * 16777216
final P N w D Y Z g k c K C K+ e near h = le_of_mul-le-mul_right {k = K * 8388608 * c}
    (goal (mul-le-mul_right (D * w * 8388608) near) (ap (λ (z : ℕ). z * (w * c * 16777216)) e) (mul-le-mul_right (D * (K * 8388608) * 16777216) h))
    (mul-pos (mul-pos K+ (pow_pos 23)) C)
  where
    goal : g * c * 2 * (D * w * 8388608) ≤ (k * (K * 8388608) * 2 + c * K) * (D * w * 8388608)
        → Y * (K * 8388608) * (w * c * 16777216) ≡ g * D * (w * c * 16777216)
        → (P * c + k * w) * (D * (K * 8388608) * 16777216) ≤ (w * c + N * c) * (D * (K * 8388608) * 16777216)
        → (P * D + Y * w) * 16777216 * (K * 8388608 * c) ≤ (16777217 * (w * D) + (N * D + Z * w) * 16777216) * (K * 8388608 * c)
    goal x y z = omega arith

fill : (P D Y w a b : ℕ) → (P * D + Y * w) * 16777216 ≤ 16777217 * a + b * 16777216 → (P * D + Y * w) * 16777216 + 0 * a ≤ 16777217 * a + b * 16777216
fill P D Y w a b h = omega (arith, h)

-- 1 + 2 ^ -24 rounds to 1: a tie, to the even
one-rounds : Rounds binary32 one 16777217 0 16777216
unfolding round
one-rounds = record { sign = false; size = 16777217; is = refl; val = refl }

below : (k c L : ℕ) → 0 < L → k < 2 * c → k * L < 2 * L * c
below k c L p h = omega (arith, mul-lt-mul_of_pos_right h p)

near-one : (v y : Float) (k c : ℕ) → T (finite v) → T (finite y) → 0 < c → y ≡ round binary32 false k c → k < 2 * c
    → pp v * c + k * den v ≤ den v * c + nn v * c → T (le (add binary32 v y) one)
near-one v y k c p q C e small h =
    let g = grid binary32 k c in
    let val : HasValue (round binary32 false k c) false g (2 ^ 149) = round_val binary32 k c
    (round_under binary32 k c (subst (λ (z : Float). T (finite z)) e q)) in
    let parts : Parts y g 0 (2 ^ 149) = subst (λ (z : Float). Parts z g 0 (2 ^ 149)) (sym e) (parts-of (round binary32 false k c) false g (2 ^ 149) val) in
    rounds-mono binary32 (add binary32 v y) one (pp v * den y + pp y * den v) (nn v * den y + nn y * den v) (den v * den y) 16777217 0 16777216
    (mul-pos (den_pos v) (den_pos y)) (pow_pos 24)
    (add_rounds binary32 v y p q) one-rounds
    (fill (pp v) (den y) (pp y) (den v) (den v * den y) (nn v * den y + nn y * den v)
    (final (pp v) (nn v) (den v) (den y) (pp y) (nn y) g k c (2 ^ 126) C (pow_pos 126) parts.plus
    (grid-near binary32 k c 126 C (below k c (2 ^ 149) (pow_pos 149) small)) h))

-- ---- v + (1 - v) rounds to 1 at most
-- 1 - v lies between 0 and 2
rest-finite : (v : Float) → T (finite v) → T (le minus_one v) → T (le v one) → T (finite (sub binary32 one v))
unfolding le sub
rest-finite v p h k =
    finite-between zero (sub binary32 one v) (fin false 1 (pos 1)) tt tt (sub-mono binary32 one one one v tt tt tt p tt k)
    (sub-mono binary32 one one v minus_one tt tt p tt tt h)

rest_le : (v : Float) → T (finite v) → T (le minus_one v) → T (le v one) → T (le (add binary32 v (sub binary32 one v)) one)
unfolding le add sub
rest_le v p h k = go r.sign r.size r.is r.val (ltb (nn v) (pp v + den v)) (ltb→lt (nn v) (pp v + den v)) (nltb→le (nn v) (pp v + den v))
  where
    r : Rounds binary32 (sub binary32 one v) (1 * den v + nn v * 1) (0 * den v + pp v * 1) (1 * den v)
    r = sub-rounds binary32 one v tt p

    bound : (P N w z : ℕ) → 1 * w + N * 1 + 0 ≡ 0 * w + P * 1 + z → P * (1 * w) + z * w ≤ w * (1 * w) + N * (1 * w)
    bound P N w z e = omega (arith, ap (λ (x : ℕ). x * w) e)

    go : (s : Bool) (z : ℕ) → sub binary32 one v ≡ round binary32 s z (1 * den v)
        → 1 * den v + nn v * 1 + cond s z 0 ≡ 0 * den v + pp v * 1 + cond s 0 z → (b : Bool) → (T b → nn v < pp v + den v)
        → (T (not b) → pp v + den v ≤ nn v) → T (le (add binary32 v (sub binary32 one v)) one)
    go false z e w true x y =
        near-one v (sub binary32 one v) z (1 * den v) p (rest-finite v p h k) (rw (one-mul (den v)) (den_pos v)) e (omega (arith, x tt))
        (bound (pp v) (nn v) (den v) z w)
    go false z e w false x y =
        add-mono binary32 v minus_one (sub binary32 one v) (fin false 1 (pos 1)) p tt (rest-finite v p h k) tt (cross→le v minus_one p tt (omega (arith, y tt)))
        (sub-mono binary32 one one v minus_one tt tt p tt tt h)
    go true z e w b x y =
        add-mono binary32 v one (sub binary32 one v) zero p tt (rest-finite v p h k) tt k
        (rw (e, round-minus binary32 z (1 * den v)) (over-le (round binary32 false z (1 * den v)) zero (round-over binary32 z (1 * den v)) tt))

-- the same below, with all signs reversed
rest-finite-low : (v : Float) → T (finite v) → T (le minus_one v) → T (le v one) → T (finite (sub binary32 minus_one v))
unfolding le sub
rest-finite-low v p h k =
    finite-between (fin true 1 (pos 1)) (sub binary32 minus_one v) zero tt tt (sub-mono binary32 minus_one minus_one one v tt tt tt p tt k)
    (sub-mono binary32 minus_one minus_one v minus_one tt tt p tt tt h)

rotated : (x : Float) → T (finite x) → T (le minus_one x) → T (le x one) → T (le minus_one (add binary32 (neg x) (sub binary32 minus_one (neg x))))
rotated x q h k =
    let s = sub binary32 one x in
    let t = sub binary32 minus_one (neg x) in
    let s-fin : T (finite s) = rest-finite x q h k in
    let t-fin : T (finite t) = rest-finite-low (neg x) (neg-finite x q) (unfold neg in le-neg x one k) (unfold neg in le-neg minus_one x h) in
    let a : T (le minus_one (neg (add binary32 x s))) = unfold neg in le-neg (add binary32 x s) one (rest_le x q h k) in
    let b : T (le (neg (add binary32 x s)) (add binary32 (neg x) (neg s))) = neg-add binary32 x s q s-fin in
    let c : T (le (neg s) t) = unfold sub neg in neg-add binary32 one (neg x) tt (neg-finite x q) in
    le-trans-float minus_one (neg (add binary32 x s)) (add binary32 (neg x) t) a
    (le-trans-float (neg (add binary32 x s)) (add binary32 (neg x) (neg s)) (add binary32 (neg x) t) b
    (add-mono-r binary32 (neg x) (neg s) t (neg-finite x q) (neg-finite s s-fin) t-fin c))

rest-ge : (v : Float) → T (finite v) → T (le minus_one v) → T (le v one) → T (le minus_one (add binary32 v (sub binary32 minus_one v)))
rest-ge v p h k =
    subst (λ (z : Float). T (le minus_one (add binary32 z (sub binary32 minus_one z)))) (neg-neg v)
    (rotated (neg v) (neg-finite v p) (unfold neg in le-neg v one k) (unfold neg in le-neg minus_one v h))

-- ---- the theorems
module _ (v t a : Float) (vw : Within minus_one one v) (tw : Within minus_one one t) (aw : Within zero one a) where
  v-fin : T (finite v)
  v-fin = within-finite minus_one one v tt tt vw

  t-fin : T (finite t)
  t-fin = within-finite minus_one one t tt tt tw

  a-fin : T (finite a)
  a-fin = within-finite zero one a tt tt aw

  d-in : Within (fin true 1 (pos 1)) (fin false 1 (pos 1)) (sub binary32 t v)
  unfolding le sub
  d-in =
      record {
        at_least = sub-mono binary32 minus_one t one v tt t-fin tt v-fin tw.at_least vw.at_most;
        at_most = sub-mono binary32 t one v minus_one t-fin tt v-fin tt tw.at_most vw.at_least;
      }

  d-fin : T (finite (sub binary32 t v))
  d-fin = within-finite (fin true 1 (pos 1)) (fin false 1 (pos 1)) (sub binary32 t v) tt tt d-in

  -- t - v not negative: the step is between 0 and t - v. Not positive: between t - v and 0
  step-up : T (le zero (sub binary32 t v)) → Within zero (sub binary32 t v) (mul binary32 (sub binary32 t v) a)
  step-up h = record {
    at_least = mul-not-neg binary32 (sub binary32 t v) a d-fin a-fin h aw.at_least (unfold fits in tt);
    at_most = mul-shrinks binary32 (sub binary32 t v) a d-fin (sub-fits binary32 t v) a-fin h aw.at_most;
  }

  step_down : T (le (sub binary32 t v) zero) → Within (sub binary32 t v) zero (mul binary32 (sub binary32 t v) a)
  step_down h = record {
    at_least = mul-shrinks-up binary32 (sub binary32 t v) a d-fin (sub-fits binary32 t v) a-fin h aw.at_most;
    at_most = mul-not-pos binary32 (sub binary32 t v) a d-fin a-fin h aw.at_least (unfold fits in tt);
  }

  step-fin : T (finite (mul binary32 (sub binary32 t v) a))
  step-fin = go (le-or-ge zero (sub binary32 t v) tt d-fin)
    where
      go : T (le zero (sub binary32 t v)) ⊎ T (le (sub binary32 t v) zero) → T (finite (mul binary32 (sub binary32 t v) a))
      go (inl h) = within-finite zero (sub binary32 t v) (mul binary32 (sub binary32 t v) a) tt d-fin (step-up h)
      go (inr h) = within-finite (sub binary32 t v) zero (mul binary32 (sub binary32 t v) a) d-fin tt (step_down h)

  pub approach-le : T (le (approach_of v t a) one)
  unfolding approach_of le add
  approach-le = go (le-or-ge zero (sub binary32 t v) tt d-fin)
    where
      go : T (le zero (sub binary32 t v)) ⊎ T (le (sub binary32 t v) zero) → T (le (add binary32 v (mul binary32 (sub binary32 t v) a)) one)
      go (inl h) =
          le-trans-float (add binary32 v (mul binary32 (sub binary32 t v) a)) (add binary32 v (sub binary32 one v)) one
          (add-mono-r binary32 v (mul binary32 (sub binary32 t v) a) (sub binary32 one v) v-fin step-fin (rest-finite v v-fin vw.at_least vw.at_most)
          (le-trans-float (mul binary32 (sub binary32 t v) a) (sub binary32 t v) (sub binary32 one v) (step-up h).at_most
          (sub-mono binary32 t one v v t-fin tt v-fin v-fin tw.at_most (le-self v v-fin))))
          (rest_le v v-fin vw.at_least vw.at_most)
      go (inr h) = add-mono binary32 v one (mul binary32 (sub binary32 t v) a) zero v-fin tt step-fin tt vw.at_most (step_down h).at_most

  pub approach-ge : T (le minus_one (approach_of v t a))
  unfolding approach_of le add
  approach-ge = go (le-or-ge zero (sub binary32 t v) tt d-fin)
    where
      go : T (le zero (sub binary32 t v)) ⊎ T (le (sub binary32 t v) zero) → T (le minus_one (add binary32 v (mul binary32 (sub binary32 t v) a)))
      go (inl h) = add-mono binary32 minus_one v zero (mul binary32 (sub binary32 t v) a) tt v-fin tt step-fin vw.at_least (step-up h).at_least
      go (inr h) =
          le-trans-float minus_one (add binary32 v (sub binary32 minus_one v)) (add binary32 v (mul binary32 (sub binary32 t v) a))
          (rest-ge v v-fin vw.at_least vw.at_most)
          (add-mono-r binary32 v (sub binary32 minus_one v) (mul binary32 (sub binary32 t v) a) v-fin
          (rest-finite-low v v-fin vw.at_least vw.at_most) step-fin
          (le-trans-float (sub binary32 minus_one v) (sub binary32 t v) (mul binary32 (sub binary32 t v) a)
          (sub-mono binary32 minus_one t v v tt t-fin v-fin v-fin tw.at_least (le-self v v-fin)) (step_down h).at_least))

pub approach-in : (v t a : Float) → Within minus_one one v → Within minus_one one t → Within zero one a → Within minus_one one (approach_of v t a)
approach-in v t a vw tw aw = record { at_least = approach-ge v t a vw tw aw; at_most = approach-le v t a vw tw aw }

-- ---- in [0, 1]: v has to be a value of the format, so that 0 - v is exact
unit : (x : Float) → Within zero one x → Within minus_one one x
unit x w = within_wider zero one minus_one one x (unfold le in tt) (unfold le in tt) w

minus-cross : (v : Float) → T (finite v) → Cross (pp (neg v)) (nn (neg v)) (den (neg v)) (0 * den v + nn v * 1) (0 * den v + pp v * 1) (1 * den v)
unfolding neg
minus-cross nan p = absurd p
minus-cross (inf s) p = absurd p
minus-cross (fin false m e) p = omega arith
minus-cross (fin true m e) p = omega arith

minus-exact : (v : Float) → T (finite v) → T (fits binary32 v) → T (le (neg v) (sub binary32 zero v))
minus-exact v p g =
    rounds-ge binary32 (sub binary32 zero v) (neg v) (0 * den v + nn v * 1) (0 * den v + pp v * 1) (1 * den v) (neg-finite v p)
    (neg-fits binary32 v g) (rw (one-mul (den v)) (den_pos v)) (sub-rounds binary32 zero v tt p) (minus-cross v p)

no-rest : (v : Float) → T (finite v) → T (le zero (sub binary32 v v))
no-rest v p =
    rounds-ge binary32 (sub binary32 v v) zero (pp v * den v + nn v * den v) (nn v * den v + pp v * den v) (den v * den v) tt (unfold fits in tt)
    (mul-pos (den_pos v) (den_pos v)) (sub-rounds binary32 v v p p) (flat (pp v * den v) (nn v * den v) (den v * den v))
  where
    flat : (a b c : ℕ) → Cross 0 0 1 (a + b) (b + a) c
    flat a b c = omega arith

approach-unit-ge : (v t a : Float) → T (fits binary32 v) → Within zero one v → Within zero one t → Within zero one a → T (le zero (approach_of v t a))
unfolding approach_of le add
approach-unit-ge v t a g vw tw aw = go (le-or-ge zero (sub binary32 t v) tt d-fin')
  where
    v-fin' : T (finite v)
    v-fin' = within-finite zero one v tt tt vw

    t-fin' : T (finite t)
    t-fin' = within-finite zero one t tt tt tw

    d-fin' : T (finite (sub binary32 t v))
    d-fin' = d-fin v t a (unit v vw) (unit t tw) aw

    s : Float
    s = mul binary32 (sub binary32 t v) a

    s-fin : T (finite s)
    s-fin = step-fin v t a (unit v vw) (unit t tw) aw

    go : T (le zero (sub binary32 t v)) ⊎ T (le (sub binary32 t v) zero) → T (le zero (add binary32 v s))
    go (inl h) = add-mono binary32 zero v zero s tt v-fin' tt s-fin vw.at_least (step-up v t a (unit v vw) (unit t tw) aw h).at_least
    go (inr h) =
        le-trans-float zero (sub binary32 v v) (add binary32 v s) (no-rest v v-fin')
        (unfold sub in add-mono-r binary32 v (neg v) s v-fin' (neg-finite v v-fin') s-fin
        (le-trans-float (neg v) (sub binary32 zero v) s (minus-exact v v-fin' g)
        (le-trans-float (sub binary32 zero v) (sub binary32 t v) s
        (sub-mono binary32 zero t v v tt t-fin' v-fin' v-fin' tw.at_least (le-self v v-fin'))
        (step_down v t a (unit v vw) (unit t tw) aw h).at_least)))

pub approach-unit : (v t a : Float) → T (fits binary32 v) → Within zero one v → Within zero one t → Within zero one a → Within zero one (approach_of v t a)
approach-unit v t a g vw tw aw = record { at_least = approach-unit-ge v t a g vw tw aw; at_most = approach-le v t a (unit v vw) (unit t tw) aw }

-- ---- a command of any bits, saturated
pub saturated-in : (lo hi t : Float) → T (finite lo) → T (finite hi) → T (le lo zero) → T (le zero hi) → T (le lo hi) → Within lo hi (saturated lo hi zero t)
unfolding saturated clamp
saturated-in lo hi t p q l h m =
    go (ne t t) (lt t lo) (lt hi t) (λ n b. not-lt→le t lo (same_number t n) (finite_number lo p) b)
    (λ n b. not-lt→le hi t (finite_number hi q) (same_number t n) b)
  where
    go : (a b c : Bool) → (T (not a) → T (not b) → T (le lo t)) → (T (not a) → T (not c) → T (le t hi)) → Within lo hi (cond a zero (cond b lo (cond c hi t)))
    go true b c x y = record { at_least = l; at_most = h }
    go false true c x y = record { at_least = le-self lo p; at_most = m }
    go false false true x y = record { at_least = m; at_most = le-self hi q }
    go false false false x y = record { at_least = x tt tt; at_most = y tt tt }

-- a surface's running value stays in -1..1
pub surface-in : (v t a : Float) → Within minus_one one v → Within zero one a → Within minus_one one (approach_saturated v t minus_one one zero a)
unfolding approach_saturated
surface-in v t a w u =
    approach-in v (saturated minus_one one zero t) a w (saturated-in minus_one one t tt tt (unfold le in tt) (unfold le in tt) (unfold le in tt)) u

-- a motor's running value, which is a value of the format, stays in 0..1
pub motor-in : (v t a : Float) → T (fits binary32 v) → Within zero one v → Within zero one a → Within zero one (approach_saturated v t zero one zero a)
unfolding approach_saturated
motor-in v t a g w u = approach-unit v (saturated zero one zero t) a g w (saturated-in zero one t tt tt (unfold le in tt) (unfold le in tt) (unfold le in tt)) u

-- and is a value of the format again
pub approach-fits : (v t a : Float) → T (fits binary32 (approach_of v t a))
unfolding approach_of
approach-fits v t a = add-fits binary32 v ((t ⊖ v) ⊗ a)

-- ---- the factor, for an accepted step and a time constant from 0.001 s to 10 s
abbrev pub constant_least : Float
constant_least = rounded 1 1000

abbrev pub constant_most : Float
constant_most = rounded 10 1

pub factor-in : (h tau : Float) → Within step_least step_most h → Within constant_least constant_most tau → Within zero one (factor_of h tau)
unfolding factor_of sub round
factor-in h tau w v =
    let w0 : Within zero step_most h = within_wider step_least step_most zero step_most h (unfold le in tt) (unfold le in tt) w in
    let q = h ⊘ tau in
    let d : Within zero (step_most ⊘ constant_least) q = div-in binary32 step_most h constant_least tau tt tt
    (between constant_least tau constant_most tt tt v.at_least v.at_most) (unfold fits in tt) w0 v.at_least in
    let n : Within lowest zero (neg q) = record {
      at_least = le-trans-float lowest (neg (step_most ⊘ constant_least)) (neg q) (unfold le neg div in tt) (le-neg q (step_most ⊘ constant_least) d.at_most);
      at_most = le-trans-float (neg q) (neg zero) zero (le-neg zero q d.at_least) (unfold le neg in tt);
    } in
    from_in binary32 one zero one (exp_of (neg h ⊘ tau)) tt tt tt (exp_in (neg h ⊘ tau) (within-num (div-neg-left binary32 h tau) n))

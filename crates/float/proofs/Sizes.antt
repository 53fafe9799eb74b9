-- How large results can be: |x| ≤ 2 ^ n through sums, products and quotients, each rounded. What is asked of the powers is computed. Assumes nothing.
use Prim.Native.Nat as Nat
use Rattle.std.proofs.Common.{◌≡◌, ℕ, suc, ◌+◌, ◌*◌, Bool, true, false, not, T, pos, sym, refl, ap, ◌∙◌, subst, inl, inr, mul-pos, arith}
use lib.Dec.{eqb-suc-zero}
use lib.Ieee.{Float, add, binary32, div, down, eq, fin, fits, inf, is_nan, le, lt, mul, nan, neg, round, sub, unlike, up}
use lib.Ieee.Positive.{den, den_pos, positive}
use lib.Ieee.Scale.{finite}
use Rattle.float.proofs.Exact.{rounds-ge, rounds-le}
use Rattle.float.proofs.Interval.{mul_in, within-finite, within_wider}
use Rattle.float.proofs.Mirror.{nonzero-above, plus_sign}
use Rattle.float.proofs.Order.{Cross, cross→le, le-neg, le-or-ge, le-trans-float, le→cross, nn, over-le, pp}
use Rattle.float.proofs.Rounding.{add-mono, add_rounds, div-rounds, mul-mono-l, mul-mono-r, neg-add, neg-finite, pp-pos}
use Rattle.float.proofs.Sign.{add-comm-exact, mul-neg-left, mul-neg-right, neg-neg, over, round-minus, round-over}
use Rattle.float.proofs.Zeros.{le-num}
use Rattle.float.specs.Interval.{Within}
use Rattle.float.specs.Notation.{zero}
use Rattle.float.specs.Same.{num}

-- 2 ^ n
abbrev pub two_to : ℕ → Float
two_to n = fin false 1 (pos n)

pub record Sized (n : ℕ) (x : Float) : Type 0 where
  pub within : Within (neg (two_to n)) (two_to n) x

pub sized : {x : Float} (n : ℕ) → T (le (neg (two_to n)) x) → T (le x (two_to n)) → Sized n x
sized n l h = record { within = record { at_least = l; at_most = h } }

pub sized-finite : {n : ℕ} {x : Float} → Sized n x → T (finite x)
sized-finite {n} {x} s = within-finite (neg (two_to n)) (two_to n) x (neg-finite (two_to n) tt) tt s.within

pub sized-neg : {n : ℕ} {x : Float} → Sized n x → Sized n (neg x)
sized-neg {n} {x} s = record {
  within = record {
    at_least = le-neg x (two_to n) s.within.at_most;
    at_most = subst (λ (z : Float). T (le (neg x) z)) (neg-neg (two_to n)) (le-neg (neg (two_to n)) x s.within.at_least);
  };
}

pub sized-wider : {n : ℕ} {x : Float} (m : ℕ) → Sized n x → T (le (two_to n) (two_to m)) → Sized m x
sized-wider {n} {x} m s h = record { within = within_wider (neg (two_to n)) (two_to n) (neg (two_to m)) (two_to m) x (le-neg (two_to n) (two_to m) h) h s.within }

-- ---- a sum, and so a difference
pub sized-add : {n m : ℕ} {x y : Float} (k : ℕ) → Sized n x → Sized m y → T (le (add binary32 (two_to n) (two_to m)) (two_to k)) → Sized k (add binary32 x y)
sized-add {n} {m} {x} {y} k s t h =
    let a = two_to n in
    let b = two_to m in
    record {
      within = record {
        at_least = le-trans-float (neg (two_to k)) (neg (add binary32 a b)) (add binary32 x y) (le-neg (add binary32 a b) (two_to k) h)
            (le-trans-float (neg (add binary32 a b)) (add binary32 (neg a) (neg b)) (add binary32 x y) (neg-add binary32 a b tt tt)
            (add-mono binary32 (neg a) x (neg b) y (neg-finite a tt) (sized-finite s) (neg-finite b tt) (sized-finite t) s.within.at_least
            t.within.at_least));
        at_most =
            le-trans-float (add binary32 x y) (add binary32 a b) (two_to k)
            (add-mono binary32 x a y b (sized-finite s) tt (sized-finite t) tt s.within.at_most t.within.at_most) h;
      };
    }

pub sized-sub : {n m : ℕ} {x y : Float} (k : ℕ) → Sized n x → Sized m y → T (le (add binary32 (two_to n) (two_to m)) (two_to k)) → Sized k (sub binary32 x y)
unfolding sub
sized-sub k s t h = sized-add k s (sized-neg t) h

-- ---- a product
not_neg : (n : ℕ) → T (le zero (two_to n))
not_neg n = cross→le zero (two_to n) tt tt (omega arith)

-- by a factor that is not negative
scaled : {n m : ℕ} {x y : Float} (k : ℕ) → T (le (mul binary32 (two_to n) (two_to m)) (two_to k)) → T (le zero y) → Sized n x → Sized m y
    → Sized k (mul binary32 x y)
scaled {n} {m} {x} {y} k h o s t =
    let a = two_to n in
    let b = two_to m in
    let low : T (le (neg (two_to k)) (mul binary32 (neg a) b)) = rw (mul-neg-left binary32 a b) (le-neg (mul binary32 a b) (two_to k) h) in
    let ends : Within (mul binary32 (neg a) b) (mul binary32 a b) (mul binary32 x y) =
    mul_in binary32 (neg a) a x b y (neg-finite a tt) tt tt (over-le a zero tt tt) (not_neg n) s.within
    (record { at_least = o; at_most = t.within.at_most }) in
    record { within = within_wider (mul binary32 (neg a) b) (mul binary32 a b) (neg (two_to k)) (two_to k) (mul binary32 x y) low h ends }

pub neg-mul-neg : (x y : Float) → mul binary32 (neg x) (neg y) ≡ mul binary32 x y
neg-mul-neg x y = mul-neg-left binary32 x (neg y) ∙ ap neg (mul-neg-right binary32 x y) ∙ neg-neg (mul binary32 x y)

pub above : (y : Float) → T (le y zero) → T (le zero (neg y))
unfolding num
above y h = subst T (le-num (neg zero) zero (neg y) (neg y) (unfold neg in refl) refl) (le-neg y zero h)

pub sized-mul : {n m : ℕ} {x y : Float} (k : ℕ) → Sized n x → Sized m y → T (le (mul binary32 (two_to n) (two_to m)) (two_to k)) → Sized k (mul binary32 x y)
sized-mul {n} {m} {x} {y} k s t h =
    elim (le-or-ge zero y tt (sized-finite t)) [
      | inl o ↦ scaled k h o s t
      | inr o ↦ subst (Sized k) (neg-mul-neg x y)
          (scaled k h (above y o) (sized-neg s) (sized-neg t))
    ]

-- ---- a quotient by what is no smaller is at most 1
pub ratio-sized : (x y : Float) → T (finite x) → T (positive y) → T (le (neg y) x) → T (le x y) → Sized 0 (div binary32 x y)
ratio-sized x nan p q l h = absurd q
ratio-sized x (inf s) p q l h = absurd q
ratio-sized x (fin true m e) p q l h = absurd q
ratio-sized x (fin false m e) p q l h =
    let y = fin false m e in
    let c = mul-pos (pp-pos y q) (den_pos x) in
    record {
      within = record {
        at_least =
            unfold neg in rounds-ge binary32 (div binary32 x y) (fin true 1 (pos 0)) (pp x * den y) (nn x * den y) (pp y * den x) tt
            (unfold fits in tt) c (div-rounds binary32 x y p q)
            (low (pp x) (nn x) (den x) (pp y) (den y) (unfold neg in le→cross (neg y) x tt p l));
        at_most =
            rounds-le binary32 (div binary32 x y) (two_to 0) (pp x * den y) (nn x * den y) (pp y * den x) tt (unfold fits in tt) c
            (div-rounds binary32 x y p q)
            (high (pp x) (nn x) (den x) (pp y) (den y) (le→cross x y p tt h));
      };
    }
  where
    low : (P N D q d : ℕ) → Cross 0 q d P N D → Cross 0 1 1 (P * d) (N * d) (q * D)
    low P N D q d h = omega (arith, h)

    high : (P N D q d : ℕ) → Cross P N D q 0 d → Cross (P * d) (N * d) (q * D) 1 0 1
    high P N D q d h = omega (arith, h)

-- ---- what bounds a sum of two that are not negative bounds each, and a square's bound its root
pub first_part : (x y c : Float) → T (plus_sign x) → T (plus_sign y) → T (fits binary32 x) → T (le (add binary32 x y) c) → T (le x c)
unfolding add le lt eq
first_part nan y c p q f h = absurd h
first_part (inf true) y c p q f h = absurd p
first_part (inf false) nan c p q f h = absurd h
first_part (inf false) (inf true) c p q f h = absurd q
first_part (inf false) (inf false) c p q f h = h
first_part (inf false) (fin t n d) c p q f h = h
first_part (fin s m e) nan c p q f h = absurd h
first_part (fin s m e) (inf true) c p q f h = absurd q
first_part (fin s m e) (inf false) c p q f h = le-trans-float (fin s m e) (inf false) c tt h
first_part (fin s m e) (fin true n d) c p q f h = absurd q
first_part (fin s m e) (fin false n d) c p q f h =
    let x = fin s m e in
    let y = fin false n d in
    le-trans-float x (add binary32 x y) c
    (rounds-ge binary32 (add binary32 x y) x (pp x * den y + pp y * den x) (nn x * den y + nn y * den x) (den x * den y) tt f
    (mul-pos (den_pos x) (den_pos y)) (add_rounds binary32 x y tt tt) (more (pp x) (nn x) (den x) (pp y) (den y))) h
  where
    more : (P N D q d : ℕ) → Cross P N D (P * d + q * D) (N * d + 0 * D) (D * d)
    more P N D q d = omega arith

pub second-part : (x y c : Float) → T (plus_sign x) → T (plus_sign y) → T (fits binary32 y) → T (le (add binary32 x y) c) → T (le y c)
second-part x y c p q f h = first_part y x c q p f (subst (λ (z : Float). T (le z c)) (add-comm-exact binary32 x y) h)

root-at-most : (x c : Float) → T (finite x) → (T (le (two_to 2) c) → ⊥) → T (le (mul binary32 x x) c) → T (le x (two_to 1))
root-at-most x c p k h = elim (le-or-ge x (two_to 1) p tt) [ inl l ↦ l | inr g ↦ absurd (k (le-trans-float (two_to 2) (mul binary32 x x) c (four g) h)) ]
  where
    four : T (le (two_to 1) x) → T (le (two_to 2) (mul binary32 x x))
    four g =
        le-trans-float (two_to 2) (mul binary32 (two_to 1) (two_to 1)) (mul binary32 x x) (unfold le mul round in tt)
        (le-trans-float (mul binary32 (two_to 1) (two_to 1)) (mul binary32 x (two_to 1)) (mul binary32 x x)
        (mul-mono-l binary32 (two_to 1) x (two_to 1) tt p tt (not_neg 1) g)
        (mul-mono-r binary32 x (two_to 1) x p tt p (le-trans-float zero (two_to 1) x (not_neg 1) g) g))

pub root-sized : (x c : Float) → (T (le (two_to 2) c) → ⊥) → T (le (mul binary32 x x) c) → Sized 1 x
root-sized nan c k h = absurd (unfold le lt eq mul in h)
root-sized (inf true) c k h = absurd (k (le-trans-float (two_to 2) (inf false) c (unfold le in tt) (unfold mul in h)))
root-sized (inf false) c k h = absurd (k (le-trans-float (two_to 2) (inf false) c (unfold le in tt) (unfold mul in h)))
root-sized (fin s m e) c k h =
    let x = fin s m e in
    record {
      within = record {
        at_least =
            subst (λ (z : Float). T (le (neg (two_to 1)) z)) (neg-neg x)
            (le-neg (neg x) (two_to 1) (root-at-most (neg x) c (neg-finite x tt) k (subst (λ (z : Float). T (le z c)) (sym (neg-mul-neg x x)) h)));
        at_most = root-at-most x c tt k h;
      };
    }

-- ---- a rounded number is a number, and so is a finite one over one above 0
pub over-number : (x : Float) → T (over x) → T (not (is_nan x))
unfolding is_nan
over-number nan p = absurd p
over-number (inf s) p = tt
over-number (fin s m e) p = tt

neg-number : (x : Float) → T (not (is_nan x)) → T (not (is_nan (neg x)))
unfolding is_nan neg
neg-number nan p = absurd p
neg-number (inf s) p = tt
neg-number (fin s m e) p = tt

round_number : (s : Bool) (a c : ℕ) → T (not (is_nan (round binary32 s a c)))
round_number false a c = over-number (round binary32 false a c) (round-over binary32 a c)
round_number true a c = rw (round-minus binary32 a c) (neg-number (round binary32 false a c) (over-number (round binary32 false a c) (round-over binary32 a c)))

pub div-number : (x y : Float) → T (finite x) → T (lt zero y) → T (not (is_nan (div binary32 x y)))
div-number nan y p q = absurd p
div-number (inf s) y p q = absurd p
div-number (fin s m e) nan p q = absurd (unfold lt in q)
div-number (fin s m e) (inf t) p q = unfold div is_nan in tt
div-number (fin s m e) (fin t Nat.zero d) p q = absurd (nonzero-above zero (fin t Nat.zero d) tt q)
div-number (fin s m e) (fin t (suc n) d) p q = unfold div in rw (eqb-suc-zero n) (round_number (unlike s t) (m * up e * down d) (suc n * up d * down e))

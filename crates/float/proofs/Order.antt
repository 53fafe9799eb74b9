-- The order of floats: of finite values as fractions (pp - nn) / den, of all values by `le` and `lt`; it is reversed under `neg`. Assumes nothing.
use Rattle.std.proofs.Common.{◌≡◌, ℕ, ◌+◌, ◌*◌, ◌<◌, ◌≤◌, Bool, true, false, cond, not, ◌&&◌, ◌||◌, T, eqb, ltb, leb, ◌⊎◌, sym, ◌∙◌, inl, inr, le_refl, le_of_lt, mul-le-mul_right, eq-zero-or-pos, eq-or-lt_of_le, le_of_mul-le-mul_right, arith, eqb→eq, ltb→lt, lt→ltb, leb→le, nltb→le, T_not}
use lib.Dec.{eqb_refl, nleb→lt, not_T}
use lib.Ieee.{Float, below, down, eq, fin, inf, is_nan, le, level, lt, nan, ne, neg, up}
use lib.Ieee.Fits.{and_i, and_l, and_r, eq→eqb}
use lib.Ieee.Positive.{den, den_pos}
use lib.Ieee.Scale.{finite}
use mathlib.Core.Bool.{beq}
use Rattle.float.proofs.Sign.{over}

-- ---- a finite value's positive and negative part
abbrev pub pp : Float → ℕ
pp nan = 0
pp (inf s) = 0
pp (fin s m e) = cond s 0 (m * up e)

abbrev pub nn : Float → ℕ
nn nan = 0
nn (inf s) = 0
nn (fin s m e) = cond s (m * up e) 0

-- (p - n) / c ≤ (q - m) / d
abbrev pub Cross : ℕ → ℕ → ℕ → ℕ → ℕ → ℕ → Type 0
Cross p n c q m d = p * d + m * c ≤ q * c + n * d

or-i : (a b : Bool) → T a ⊎ T b → T (a || b)
or-i true b t = tt
or-i false b (inl t) = absurd t
or-i false b (inr t) = t

or-e : (a b : Bool) → T (a || b) → T a ⊎ T b
or-e true b t = inl tt
or-e false b t = inr t

-- ---- the order of two finite values, by their parts
sle→ : (s : Bool) (a : ℕ) (t : Bool) (b : ℕ) → T (below s a t b || level s a t b) → cond s 0 a + cond t b 0 ≤ cond t 0 b + cond s a 0
sle→ false a false b h =
    elim (or-e (ltb a b) (level false a false b) h) [
      | inl u ↦ omega (arith, ltb→lt a b u)
      | inr u ↦ omega (arith, eqb→eq a b (and_l (eqb a b) true u))
    ]
sle→ false a true b h = omega (arith, eqb→eq a b (and_l (eqb a b) (eqb a 0) h), eqb→eq a 0 (and_r (eqb a b) (eqb a 0) h))
sle→ true a false b h = omega arith
sle→ true a true b h =
    elim (or-e (ltb b a) (level true a true b) h) [ inl u ↦ omega (arith, ltb→lt b a u) | inr u ↦ omega (arith, eqb→eq a b (and_l (eqb a b) true u)) ]

both_zero : (a b : ℕ) → a ≡ 0 → b ≡ 0 → T (eqb a b && eqb a 0)
both_zero a b x y = and_i (eqb a b) (eqb a 0) (eq→eqb (x ∙ sym y)) (eq→eqb x)

and-true : (x : Bool) → T x → T (x && true)
and-true true t = tt
and-true false t = t

sle← : (s : Bool) (a : ℕ) (t : Bool) (b : ℕ) → cond s 0 a + cond t b 0 ≤ cond t 0 b + cond s a 0 → T (below s a t b || level s a t b)
sle← false a false b h =
    let k : a ≤ b = omega arith in
    or-i (ltb a b) (level false a false b) (elim (eq-or-lt_of_le k) [ inl e ↦ inr (and-true (eqb a b) (eq→eqb e)) | inr l ↦ inl (lt→ltb a b l) ])
sle← false a true b h = both_zero a b (omega arith) (omega arith)
sle← true a false b h =
    or-i (ltb 0 (a + b)) (level true a false b)
    (elim (eq-zero-or-pos (a + b)) [ inl z ↦ inr (both_zero a b (omega (arith, z)) (omega (arith, z))) | inr l ↦ inl (lt→ltb 0 (a + b) l) ])
sle← true a true b h =
    let k : b ≤ a = omega arith in
    or-i (ltb b a) (level true a true b) (elim (eq-or-lt_of_le k) [ inl e ↦ inr (and-true (eqb a b) (eq→eqb (sym e))) | inr l ↦ inl (lt→ltb b a l) ])

-- `cond s 0 (a * d)` is `cond s 0 a * d`
pub le→cross : (x y : Float) → T (finite x) → T (finite y) → T (le x y) → Cross (pp x) (nn x) (den x) (pp y) (nn y) (den y)
unfolding le
le→cross nan y p q h = absurd p
le→cross (inf s) y p q h = absurd p
le→cross (fin s m e) nan p q h = absurd q
le→cross (fin s m e) (inf t) p q h = absurd q
le→cross (fin false m e) (fin false n d) p q h = omega (arith, sle→ false (m * up e * down d) false (n * up d * down e) h)
le→cross (fin false m e) (fin true n d) p q h = omega (arith, sle→ false (m * up e * down d) true (n * up d * down e) h)
le→cross (fin true m e) (fin false n d) p q h = omega (arith, sle→ true (m * up e * down d) false (n * up d * down e) h)
le→cross (fin true m e) (fin true n d) p q h = omega (arith, sle→ true (m * up e * down d) true (n * up d * down e) h)

pub cross→le : (x y : Float) → T (finite x) → T (finite y) → Cross (pp x) (nn x) (den x) (pp y) (nn y) (den y) → T (le x y)
unfolding le
cross→le nan y p q h = absurd p
cross→le (inf s) y p q h = absurd p
cross→le (fin s m e) nan p q h = absurd q
cross→le (fin s m e) (inf t) p q h = absurd q
cross→le (fin false m e) (fin false n d) p q h = sle← false (m * up e * down d) false (n * up d * down e) (omega arith)
cross→le (fin false m e) (fin true n d) p q h = sle← false (m * up e * down d) true (n * up d * down e) (omega arith)
cross→le (fin true m e) (fin false n d) p q h = sle← true (m * up e * down d) false (n * up d * down e) (omega arith)
cross→le (fin true m e) (fin true n d) p q h = sle← true (m * up e * down d) true (n * up d * down e) (omega arith)

-- `lt` fails where the order is the other way
slt→ : (s : Bool) (a : ℕ) (t : Bool) (b : ℕ) → T (below s a t b) → cond s 0 a + cond t b 0 < cond t 0 b + cond s a 0
slt→ false a false b h = omega (arith, ltb→lt a b h)
slt→ false a true b h = absurd h
slt→ true a false b h = omega (arith, ltb→lt 0 (a + b) h)
slt→ true a true b h = omega (arith, ltb→lt b a h)

pub le→not-lt : (x y : Float) → T (finite x) → T (finite y) → T (le y x) → T (not (lt x y))
unfolding lt
le→not-lt nan y p q h = absurd p
le→not-lt (inf s) y p q h = absurd p
le→not-lt (fin s m e) nan p q h = absurd q
le→not-lt (fin s m e) (inf t) p q h = absurd q
le→not-lt (fin false m e) (fin false n d) p q h =
    not_T (below false (m * up e * down d) false (n * up d * down e))
    (λ t. omega (arith, slt→ false (m * up e * down d) false (n * up d * down e) t, le→cross (fin false n d) (fin false m e) tt tt h))
le→not-lt (fin false m e) (fin true n d) p q h = tt
le→not-lt (fin true m e) (fin false n d) p q h =
    not_T (below true (m * up e * down d) false (n * up d * down e))
    (λ t. omega (arith, slt→ true (m * up e * down d) false (n * up d * down e) t, le→cross (fin false n d) (fin true m e) tt tt h))
le→not-lt (fin true m e) (fin true n d) p q h =
    not_T (below true (m * up e * down d) true (n * up d * down e))
    (λ t. omega (arith, slt→ true (m * up e * down d) true (n * up d * down e) t, le→cross (fin true n d) (fin true m e) tt tt h))

snlt→ : (s : Bool) (a : ℕ) (t : Bool) (b : ℕ) → T (not (below s a t b)) → cond t 0 b + cond s a 0 ≤ cond s 0 a + cond t b 0
snlt→ false a false b h = omega (arith, nltb→le a b h)
snlt→ false a true b h = omega arith
snlt→ true a false b h = omega (arith, nltb→le 0 (a + b) h)
snlt→ true a true b h = omega (arith, nltb→le b a h)

-- where `lt` fails between numbers, the order is the other way
pub lt→le : (x y : Float) → T (lt x y) → T (le x y)
unfolding le
lt→le x y h = or-i (lt x y) (eq x y) (inl h)

pub not-lt→le : (x y : Float) → T (not (is_nan x)) → T (not (is_nan y)) → T (not (lt x y)) → T (le y x)
unfolding lt is_nan le
not-lt→le nan y p q h = absurd p
not-lt→le (inf s) nan p q h = absurd q
not-lt→le (fin s m e) nan p q h = absurd q
not-lt→le (inf false) (inf false) p q h = tt
not-lt→le (inf false) (inf true) p q h = tt
not-lt→le (inf true) (inf false) p q h = absurd h
not-lt→le (inf true) (inf true) p q h = tt
not-lt→le (inf false) (fin t n d) p q h = tt
not-lt→le (inf true) (fin t n d) p q h = absurd h
not-lt→le (fin s m e) (inf false) p q h = absurd h
not-lt→le (fin s m e) (inf true) p q h = tt
not-lt→le (fin false m e) (fin false n d) p q h =
    cross→le (fin false n d) (fin false m e) tt tt (omega (arith, snlt→ false (m * up e * down d) false (n * up d * down e) h))
not-lt→le (fin false m e) (fin true n d) p q h = cross→le (fin true n d) (fin false m e) tt tt (omega arith)
not-lt→le (fin true m e) (fin false n d) p q h =
    cross→le (fin false n d) (fin true m e) tt tt (omega (arith, snlt→ true (m * up e * down d) false (n * up d * down e) h))
not-lt→le (fin true m e) (fin true n d) p q h =
    cross→le (fin true n d) (fin true m e) tt tt (omega (arith, snlt→ true (m * up e * down d) true (n * up d * down e) h))

pub cross-trans : (p n c q m d r l g : ℕ) → 0 < d → Cross p n c q m d → Cross q m d r l g → Cross p n c r l g
cross-trans p n c q m d r l g D h k = le_of_mul-le-mul_right {k = d} (omega (arith, mul-le-mul_right g h, mul-le-mul_right c k)) D

-- ---- the order on all values: `le` leaves out the NaN by itself
no_false : (b : Bool) → T (b || false) → T b
no_false true t = tt
no_false false t = t

pub le-trans-float : (x y z : Float) → T (le x y) → T (le y z) → T (le x z)
unfolding le
le-trans-float nan y z h k = absurd h
le-trans-float (inf s) nan z h k = absurd h
le-trans-float (fin s m e) nan z h k = absurd h
le-trans-float (inf s) (inf t) nan h k = absurd k
le-trans-float (inf s) (fin t n d) nan h k = absurd k
le-trans-float (fin s m e) (inf t) nan h k = absurd k
le-trans-float (fin s m e) (fin t n d) nan h k = absurd k
le-trans-float (inf true) (inf t) (inf true) h k = tt
le-trans-float (inf true) (inf t) (inf false) h k = tt
le-trans-float (inf true) (inf t) (fin u l g) h k = tt
le-trans-float (inf true) (fin t n d) (inf true) h k = tt
le-trans-float (inf true) (fin t n d) (inf false) h k = tt
le-trans-float (inf true) (fin t n d) (fin u l g) h k = tt
le-trans-float (inf false) (inf true) (inf u) h k = absurd h
le-trans-float (inf false) (inf true) (fin u l g) h k = absurd h
le-trans-float (inf false) (inf false) (inf u) h k = k
le-trans-float (inf false) (inf false) (fin u l g) h k = absurd k
le-trans-float (inf false) (fin t n d) (inf u) h k = absurd h
le-trans-float (inf false) (fin t n d) (fin u l g) h k = absurd h
le-trans-float (fin s m e) (inf true) (inf u) h k = absurd h
le-trans-float (fin s m e) (inf true) (fin u l g) h k = absurd h
le-trans-float (fin s m e) (inf false) (inf true) h k = absurd k
le-trans-float (fin s m e) (inf false) (inf false) h k = tt
le-trans-float (fin s m e) (inf false) (fin u l g) h k = absurd k
le-trans-float (fin s m e) (fin t n d) (inf true) h k = absurd k
le-trans-float (fin s m e) (fin t n d) (inf false) h k = tt
le-trans-float (fin s m e) (fin t n d) (fin u l g) h k =
    let x = fin s m e in
    let y = fin t n d in
    let z = fin u l g in
    cross→le x z tt tt (cross-trans (pp x) (nn x) (den x) (pp y) (nn y) (den y) (pp z) (nn z) (den z) (den_pos y) (le→cross x y tt tt h) (le→cross y z tt tt k))

-- what lies between two finite values is finite
pub finite-between : (lo x hi : Float) → T (finite lo) → T (finite hi) → T (le lo x) → T (le x hi) → T (finite x)
unfolding le
finite-between nan x hi p q h k = absurd p
finite-between (inf s) x hi p q h k = absurd p
finite-between (fin s m e) nan hi p q h k = absurd h
finite-between (fin s m e) (inf true) hi p q h k = absurd h
finite-between (fin s m e) (inf false) nan p q h k = absurd q
finite-between (fin s m e) (inf false) (inf t) p q h k = absurd q
finite-between (fin s m e) (inf false) (fin t n d) p q h k = absurd k
finite-between (fin s m e) (fin t n d) hi p q h k = tt

-- ---- the order is reversed under `neg`
pub le-neg : (x y : Float) → T (le x y) → T (le (neg y) (neg x))
unfolding le neg
le-neg nan y h = absurd h
le-neg (inf s) nan h = absurd h
le-neg (fin s m e) nan h = absurd h
le-neg (inf true) (inf true) h = tt
le-neg (inf true) (inf false) h = tt
le-neg (inf false) (inf true) h = absurd h
le-neg (inf false) (inf false) h = tt
le-neg (inf true) (fin t n d) h = tt
le-neg (inf false) (fin t n d) h = absurd h
le-neg (fin s m e) (inf true) h = absurd h
le-neg (fin s m e) (inf false) h = tt
le-neg (fin false m e) (fin false n d) h = cross→le (fin true n d) (fin true m e) tt tt (omega (arith, le→cross (fin false m e) (fin false n d) tt tt h))
le-neg (fin false m e) (fin true n d) h = cross→le (fin false n d) (fin true m e) tt tt (omega (arith, le→cross (fin false m e) (fin true n d) tt tt h))
le-neg (fin true m e) (fin false n d) h = cross→le (fin true n d) (fin false m e) tt tt (omega (arith, le→cross (fin true m e) (fin false n d) tt tt h))
le-neg (fin true m e) (fin true n d) h = cross→le (fin false n d) (fin false m e) tt tt (omega (arith, le→cross (fin true m e) (fin true n d) tt tt h))

pub over-le : (x y : Float) → T (over x) → T (over y) → T (le (neg x) y)
unfolding le neg
over-le nan y p q = absurd p
over-le (inf true) y p q = absurd p
over-le (fin true m e) y p q = absurd p
over-le (inf false) nan p q = absurd q
over-le (inf false) (inf t) p q = q'
  where
    q' : T ((true && not t) || beq true t)
    q' = or-i (not t) (beq true t) (inl q)
over-le (inf false) (fin t n d) p q = tt
over-le (fin false m e) nan p q = absurd q
over-le (fin false m e) (inf t) p q = or-i (not t) false (inl q)
over-le (fin false m e) (fin true n d) p q = absurd q
over-le (fin false m e) (fin false n d) p q = cross→le (fin true m e) (fin false n d) tt tt (omega arith)

pub le-self : (x : Float) → T (finite x) → T (le x x)
le-self x p = cross→le x x p p (le_refl _)

-- ---- the order is total on finite values
pub le-or-ge : (x y : Float) → T (finite x) → T (finite y) → T (le x y) ⊎ T (le y x)
le-or-ge x y p q =
    go (leb (pp x * den y + nn y * den x) (pp y * den x + nn x * den y)) (leb→le (pp x * den y + nn y * den x) (pp y * den x + nn x * den y))
    (nleb→lt (pp x * den y + nn y * den x) (pp y * den x + nn x * den y))
  where
    go : (b : Bool) → (T b → pp x * den y + nn y * den x ≤ pp y * den x + nn x * den y)
        → (T (not b) → pp y * den x + nn x * den y < pp x * den y + nn y * den x) → T (le x y) ⊎ T (le y x)
    go true h k = inl (cross→le x y p q (h tt))
    go false h k = inr (cross→le y x q p (le_of_lt (k tt)))

pub finite_number : (x : Float) → T (finite x) → T (not (is_nan x))
unfolding is_nan
finite_number nan p = p
finite_number (inf s) p = tt
finite_number (fin s m e) p = tt

-- only a NaN differs from itself
pub number_same : (x : Float) → T (not (is_nan x)) → T (not (ne x x))
unfolding is_nan ne
number_same nan p = p
number_same (inf true) p = tt
number_same (inf false) p = tt
number_same (fin true m e) p =
    not_T (not (eqb (m * up e * down e) (m * up e * down e) && true))
    (λ t. T_not (eqb (m * up e * down e) (m * up e * down e) && true) t
    (and_i (eqb (m * up e * down e) (m * up e * down e)) true (eqb_refl (m * up e * down e)) tt))
number_same (fin false m e) p =
    not_T (not (eqb (m * up e * down e) (m * up e * down e) && true))
    (λ t. T_not (eqb (m * up e * down e) (m * up e * down e) && true) t
    (and_i (eqb (m * up e * down e) (m * up e * down e)) true (eqb_refl (m * up e * down e)) tt))

pub same_number : (t : Float) → T (not (ne t t)) → T (not (is_nan t))
unfolding ne is_nan
same_number nan p = p
same_number (inf s) p = tt
same_number (fin s m e) p = tt

-- ---- `le` and `lt` by each other; and in a row, on finite values
by_contra : (b : Bool) → (T (not b) → ⊥) → T b
by_contra true h = tt
by_contra false h = h tt

pub not-le→lt : (x y : Float) → T (not (is_nan x)) → T (not (is_nan y)) → T (not (le x y)) → T (lt y x)
not-le→lt x y p q n = by_contra (lt y x) (λ k. T_not (le x y) n (not-lt→le y x q p k))

pub le-lt : (x y z : Float) → T (finite x) → T (finite y) → T (finite z) → T (le x y) → T (lt y z) → T (lt x z)
le-lt x y z p q r h k =
    by_contra (lt x z) (λ n. T_not (lt y z) (le→not-lt y z q r (le-trans-float z x y (not-lt→le x z (finite_number x p) (finite_number z r) n) h)) k)

pub lt-le : (x y z : Float) → T (finite x) → T (finite y) → T (finite z) → T (lt x y) → T (le y z) → T (lt x z)
lt-le x y z p q r h k =
    by_contra (lt x z) (λ n. T_not (lt x y) (le→not-lt x y p q (le-trans-float y z x k (not-lt→le x z (finite_number x p) (finite_number z r) n))) h)

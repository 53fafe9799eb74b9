-- `Rounds f x p n c`: x is (p - n) / c rounded. Each operation on finite values is such a rounding, and rounding keeps the order:
-- sums, differences, products and quotients are monotone. Assumes nothing.
use Prim.Native.Nat as Nat
use Rattle.std.proofs.Common.{◌≡◌, ℕ, suc, ◌+◌, ◌-◌, ◌*◌, ◌^◌, ◌<◌, ◌≤◌, Bool, true, false, cond, not, T, ltb, sym, refl, ap, ◌∙◌, inl, inr, true≢false, le_refl, mul-le-mul_right, eq-zero-or-pos, mul-le-mul, mul-pos, zero-mul, not-le_of_lt, le_of_mul-le-mul_right, arith, ltb→lt, nltb→le, pow_pos}
use lib.Dec.{eqb-suc-zero}
use lib.Ieee.{Float, Format, add, div, down, emax, fin, inf, le, low, mul, nan, neg, prec, round, sub, sum, up}
use lib.Ieee.Exact.{HasValue, round_exact}
use lib.Ieee.Fits.{up_pos}
use lib.Ieee.Order.{round_mono}
use lib.Ieee.Positive.{den, den_pos, positive, positive-finite}
use lib.Ieee.Scale.{finite}
use mathlib.Core.Bool.{false≢true}
use Rattle.float.proofs.Order.{Cross, cross→le, le-neg, le-trans-float, le→cross, nn, over-le, pp}
use Rattle.float.proofs.Sign.{mul-comm-exact, neg-neg, round-minus, round-over}
use Rattle.float.specs.Notation.{zero}

-- ---- a value by its parts
pub record Parts (x : Float) (p n c : ℕ) : Type 0 where
  pub fine : T (finite x)
  pub plus : pp x * c ≡ p * den x
  pub minus : nn x * c ≡ n * den x

pub parts-of : (x : Float) (s : Bool) (a c : ℕ) → HasValue x s a c → Parts x (cond s 0 a) (cond s a 0) c
parts-of nan s a c h = absurd h
parts-of (inf t) s a c h = absurd h
parts-of (fin false m e) false a c h = record { fine = tt; plus = h.1; minus = zero-mul c ∙ sym (zero-mul (down e)) }
parts-of (fin true m e) true a c h = record { fine = tt; plus = zero-mul c ∙ sym (zero-mul (down e)); minus = h.1 }
parts-of (fin false m e) true a c h = absurd (false≢true h.0)
parts-of (fin true m e) false a c h = absurd (true≢false h.0)

-- the order of two values is that of any fractions that they equal
swap4 : (P C p c D d : ℕ) → P * c ≡ p * C → P * D * (c * d) ≡ p * d * (C * D)
swap4 P C p c D d e = omega (arith, ap (λ (z : ℕ). z * (D * d)) e)

swap4' : (P C p c D d : ℕ) → P * c ≡ p * C → P * D * (d * c) ≡ p * d * (D * C)
swap4' P C p c D d e = omega (arith, ap (λ (z : ℕ). z * (D * d)) e)

add-four : (k l A B A' B' X Y X' Y' : ℕ) → A * k ≡ A' * l → B * k ≡ B' * l → X * k ≡ X' * l → Y * k ≡ Y' * l → (A' + B') * l ≤ (X' + Y') * l
    → (A + B) * k ≤ (X + Y) * k
add-four k l A B A' B' X Y X' Y' a b x y h = omega arith

cross-same : (P N C p n c Q M D q m d : ℕ) → 0 < c → 0 < d → P * c ≡ p * C → N * c ≡ n * C → Q * d ≡ q * D → M * d ≡ m * D → Cross p n c q m d
    → Cross P N C Q M D
cross-same P N C p n c Q M D q m d c+ d+ e1 e2 e3 e4 h =
    le_of_mul-le-mul_right {k = c * d}
    (add-four (c * d) (C * D) (P * D) (M * C) (p * d) (m * c) (Q * C) (N * D) (q * c) (n * d)
    (swap4 P C p c D d e1) (swap4' M D m d C c e4) (swap4' Q D q d C c e3) (swap4 N C n c D d e2) (mul-le-mul_right (C * D) h))
    (mul-pos c+ d+)

pub parts-le : (x y : Float) (p n c q m d : ℕ) → 0 < c → 0 < d → Parts x p n c → Parts y q m d → Cross p n c q m d → T (le x y)
parts-le x y p n c q m d C D h k l =
    cross→le x y h.fine k.fine (cross-same (pp x) (nn x) (den x) p n c (pp y) (nn y) (den y) q m d C D h.plus h.minus k.plus k.minus
    l)

pub le_parts : (x y : Float) (p n c q m d : ℕ) → Parts x p n c → Parts y q m d → T (le x y) → Cross p n c q m d
le_parts x y p n c q m d h k l =
    cross-same p n c (pp x) (nn x) (den x) q m d (pp y) (nn y) (den y) (den_pos x) (den_pos y) (sym h.plus) (sym h.minus) (sym k.plus)
    (sym k.minus) (le→cross x y h.fine k.fine l)

pub own-parts : (x : Float) → T (finite x) → Parts x (pp x) (nn x) (den x)
own-parts x h = record { fine = h; plus = refl; minus = refl }

pub zero-value : (f : Format) (s : Bool) (c : ℕ) → 0 < c → HasValue (round f s 0 c) s 0 c
zero-value f s c C = round_exact f s 0 c 0 0 C (pow_pos (prec f)) (pow_pos (low f + suc (emax f))) (zero-mul (2 ^ low f) ∙ sym (zero-mul c))

-- ---- x is (p - n) / c rounded
pub record Rounds (f : Format) (x : Float) (p n c : ℕ) : Type 0 where
  pub sign : Bool
  pub size : ℕ
  pub is : x ≡ round f sign size c
  pub val : p + cond sign size 0 ≡ n + cond sign 0 size

mono_at : (f : Format) (s t : Bool) (a b c d p n q m : ℕ) → 0 < c → 0 < d → p + cond s a 0 ≡ n + cond s 0 a → q + cond t b 0 ≡ m + cond t 0 b
    → Cross p n c q m d → T (le (round f s a c) (round f t b d))
mono_at f false false a b c d p n q m C D v w h = round_mono f a c b d C D (omega (arith, ap (λ (z : ℕ). z * d) v, ap (λ (z : ℕ). z * c) w))
mono_at f true false a b c d p n q m C D v w h = rw (round-minus f a c) (over-le (round f false a c) (round f false b d) (round-over f a c) (round-over f b d))
mono_at f true true a b c d p n q m C D v w h =
    rw (round-minus f a c, round-minus f b d)
    (le-neg (round f false b d) (round f false a c) (round_mono f b d a c D C (omega (arith, ap (λ (z : ℕ). z * d) v, ap (λ (z : ℕ). z * c) w))))
mono_at f false true a b c d p n q m C D v w h =
    let l : a * d + b * c ≤ 0 = omega (arith, ap (λ (z : ℕ). z * d) v, ap (λ (z : ℕ). z * c) w) in
    let x : a ≡ 0 = none a d D (omega arith) in
    let y : b ≡ 0 = none b c C (omega arith) in
    rw (x, y) (parts-le (round f false 0 c) (round f true 0 d) 0 0 c 0 0 d C D (parts-of (round f false 0 c) false 0 c (zero-value f false c C))
    (parts-of (round f true 0 d) true 0 d (zero-value f true d D)) (omega arith))
  where
    none : (k z : ℕ) → 0 < z → k * z ≤ 0 → k ≡ 0
    none k z Z g = elim (eq-zero-or-pos k) [ inl e ↦ e | inr l ↦ absurd (not-le_of_lt (mul-pos l Z) g) ]

pub rounds-mono : (f : Format) (x y : Float) (p n c q m d : ℕ) → 0 < c → 0 < d → Rounds f x p n c → Rounds f y q m d → Cross p n c q m d → T (le x y)
rounds-mono f x y p n c q m d C D h k l = rw (h.is, k.is) (mono_at f h.sign k.sign h.size k.size c d p n q m C D h.val k.val l)

-- ---- the operations on finite values, as roundings
pub rounds-at : (f : Format) (x : Float) (p n c q m : ℕ) → p + m ≡ q + n → Rounds f x p n c → Rounds f x q m c
rounds-at f x p n c q m e h = record { sign = h.sign; size = h.size; is = h.is; val = omega (arith, h.val) }

sum-rounds : (f : Format) (s : Bool) (a : ℕ) (t : Bool) (b c : ℕ) → Rounds f (sum f s a t b c) (cond s 0 a + cond t 0 b) (cond s a 0 + cond t b 0) c
unfolding sum
sum-rounds f false a false b c = record { sign = false; size = a + b; is = refl; val = omega arith }
sum-rounds f true a true b c = record { sign = true; size = a + b; is = refl; val = omega arith }
sum-rounds f false a true b c = go (ltb a b) (ltb→lt a b) (nltb→le a b)
  where
    go : (x : Bool) → (T x → a < b) → (T (not x) → b ≤ a) → Rounds f (cond x (round f true (b - a) c) (round f false (a - b) c)) (a + 0) (0 + b) c
    go true h k = record { sign = true; size = b - a; is = refl; val = omega (arith, h tt) }
    go false h k = record { sign = false; size = a - b; is = refl; val = omega (arith, k tt) }
sum-rounds f true a false b c = go (ltb a b) (ltb b a) (ltb→lt a b) (nltb→le a b) (ltb→lt b a) (nltb→le b a)
  where
    go : (x y : Bool) → (T x → a < b) → (T (not x) → b ≤ a) → (T y → b < a) → (T (not y) → a ≤ b)
        → Rounds f (cond x (round f false (b - a) c) (round f y (a - b) c)) (0 + b) (a + 0) c
    go true y h k h' k' = record { sign = false; size = b - a; is = refl; val = omega (arith, h tt) }
    go false true h k h' k' = record { sign = true; size = a - b; is = refl; val = omega (arith, k tt) }
    go false false h k h' k' = record { sign = false; size = a - b; is = refl; val = omega (arith, k tt, k' tt) }

pub add_rounds : (f : Format) (x y : Float) → T (finite x) → T (finite y)
    → Rounds f (add f x y) (pp x * den y + pp y * den x) (nn x * den y + nn y * den x) (den x * den y)
unfolding add
add_rounds f nan y p q = absurd p
add_rounds f (inf s) y p q = absurd p
add_rounds f (fin s m e) nan p q = absurd q
add_rounds f (fin s m e) (inf t) p q = absurd q
add_rounds f (fin s m e) (fin t n d) p q =
    rounds-at f (sum f s (m * up e * down d) t (n * up d * down e) (down e * down d)) (cond s 0 (m * up e * down d) + cond t 0 (n * up d * down e))
    (cond s (m * up e * down d) 0 + cond t (n * up d * down e) 0) (down e * down d)
    (pp (fin s m e) * down d + pp (fin t n d) * down e) (nn (fin s m e) * down d + nn (fin t n d) * down e) (same s t)
    (sum-rounds f s (m * up e * down d) t (n * up d * down e) (down e * down d))
  where
    same : (s t : Bool) → cond s 0 (m * up e * down d) + cond t 0 (n * up d * down e) + (nn (fin s m e) * down d + nn (fin t n d) * down e)
        ≡ pp (fin s m e) * down d + pp (fin t n d) * down e + (cond s (m * up e * down d) 0 + cond t (n * up d * down e) 0)
    same false false = omega arith
    same false true = omega arith
    same true false = omega arith
    same true true = omega arith

pub neg-finite : (x : Float) → T (finite x) → T (finite (neg x))
unfolding neg
neg-finite nan p = p
neg-finite (inf s) p = p
neg-finite (fin s m e) p = tt

pub sub-rounds : (f : Format) (x y : Float) → T (finite x) → T (finite y)
    → Rounds f (sub f x y) (pp x * den y + nn y * den x) (nn x * den y + pp y * den x) (den x * den y)
unfolding sub neg
sub-rounds f x nan p q = absurd q
sub-rounds f x (inf t) p q = absurd q
sub-rounds f x (fin false n d) p q = add_rounds f x (fin true n d) p tt
sub-rounds f x (fin true n d) p q = add_rounds f x (fin false n d) p tt

pub mul-rounds : (f : Format) (x y : Float) → T (finite x) → T (finite y)
    → Rounds f (mul f x y) (pp x * pp y + nn x * nn y) (pp x * nn y + nn x * pp y) (den x * den y)
unfolding mul
mul-rounds f nan y p q = absurd p
mul-rounds f (inf s) y p q = absurd p
mul-rounds f (fin s m e) nan p q = absurd q
mul-rounds f (fin s m e) (inf t) p q = absurd q
mul-rounds f (fin false m e) (fin false n d) p q = record { sign = false; size = m * up e * (n * up d); is = refl; val = omega arith }
mul-rounds f (fin false m e) (fin true n d) p q = record { sign = true; size = m * up e * (n * up d); is = refl; val = omega arith }
mul-rounds f (fin true m e) (fin false n d) p q = record { sign = true; size = m * up e * (n * up d); is = refl; val = omega arith }
mul-rounds f (fin true m e) (fin true n d) p q = record { sign = false; size = m * up e * (n * up d); is = refl; val = omega arith }

-- a quotient by a value above zero
pub div-rounds : (f : Format) (x y : Float) → T (finite x) → T (positive y) → Rounds f (div f x y) (pp x * den y) (nn x * den y) (pp y * den x)
unfolding div
div-rounds f nan y p q = absurd p
div-rounds f (inf s) y p q = absurd p
div-rounds f (fin s m e) nan p q = absurd q
div-rounds f (fin s m e) (inf t) p q = absurd q
div-rounds f (fin s m e) (fin true n d) p q = absurd q
div-rounds f (fin s m e) (fin false Nat.zero d) p q = absurd q
div-rounds f (fin false m e) (fin false (suc n) d) p q = record { sign = false; size = m * up e * down d; is = rw (eqb-suc-zero n); val = omega arith }
div-rounds f (fin true m e) (fin false (suc n) d) p q = record { sign = true; size = m * up e * down d; is = rw (eqb-suc-zero n); val = omega arith }

pub rounds-neg : (f : Format) (x : Float) (p n c : ℕ) → Rounds f x p n c → Rounds f (neg x) n p c
rounds-neg f x p n c r = go r.sign r.size r.is r.val
  where
    go : (s : Bool) (z : ℕ) → x ≡ round f s z c → p + cond s z 0 ≡ n + cond s 0 z → Rounds f (neg x) n p c
    go false z e v = record { sign = true; size = z; is = ap neg e ∙ sym (round-minus f z c); val = omega arith }
    go true z e v = record { sign = false; size = z; is = ap neg (e ∙ round-minus f z c) ∙ neg-neg (round f false z c); val = omega arith }

add-neg-rounds : (f : Format) (x y : Float) → T (finite x) → T (finite y)
    → Rounds f (add f (neg x) (neg y)) (nn x * den y + nn y * den x) (pp x * den y + pp y * den x) (den x * den y)
unfolding neg
add-neg-rounds f nan y p q = absurd p
add-neg-rounds f (inf s) y p q = absurd p
add-neg-rounds f (fin s m e) nan p q = absurd q
add-neg-rounds f (fin s m e) (inf t) p q = absurd q
add-neg-rounds f (fin true m e) (fin true n d) p q = add_rounds f (fin false m e) (fin false n d) tt tt
add-neg-rounds f (fin true m e) (fin false n d) p q = add_rounds f (fin false m e) (fin true n d) tt tt
add-neg-rounds f (fin false m e) (fin true n d) p q = add_rounds f (fin true m e) (fin false n d) tt tt
add-neg-rounds f (fin false m e) (fin false n d) p q = add_rounds f (fin true m e) (fin true n d) tt tt

-- -(x + y) and -x + -y are level
pub neg-add : (f : Format) (x y : Float) → T (finite x) → T (finite y) → T (le (neg (add f x y)) (add f (neg x) (neg y)))
neg-add f x y p q =
    rounds-mono f (neg (add f x y)) (add f (neg x) (neg y)) (nn x * den y + nn y * den x) (pp x * den y + pp y * den x) (den x * den y)
    (nn x * den y + nn y * den x) (pp x * den y + pp y * den x) (den x * den y)
    (mul-pos (den_pos x) (den_pos y)) (mul-pos (den_pos x) (den_pos y))
    (rounds-neg f (add f x y) (pp x * den y + pp y * den x) (nn x * den y + nn y * den x) (den x * den y) (add_rounds f x y p q))
    (add-neg-rounds f x y p q) (le_refl _)

-- ---- the order is kept, in one operand at a time
add-cross : (p n c p' n' c' q m d : ℕ) → Cross p n c p' n' c' → Cross (p * d + q * c) (n * d + m * c) (c * d) (p' * d + q * c') (n' * d + m * c') (c' * d)
add-cross p n c p' n' c' q m d h = omega (arith, mul-le-mul_right (d * d) h)

pub add-mono-l : (f : Format) (x x' y : Float) → T (finite x) → T (finite x') → T (finite y) → T (le x x') → T (le (add f x y) (add f x' y))
add-mono-l f x x' y p p' q h =
    rounds-mono f (add f x y) (add f x' y) (pp x * den y + pp y * den x) (nn x * den y + nn y * den x) (den x * den y) (pp x' * den y + pp y * den x')
    (nn x' * den y + nn y * den x') (den x' * den y)
    (mul-pos (den_pos x) (den_pos y)) (mul-pos (den_pos x') (den_pos y)) (add_rounds f x y p q) (add_rounds f x' y p' q)
    (add-cross (pp x) (nn x) (den x) (pp x') (nn x') (den x') (pp y) (nn y) (den y) (le→cross x x' p p' h))

add-cross' : (p n c p' n' c' q m d : ℕ) → Cross p n c p' n' c' → Cross (q * c + p * d) (m * c + n * d) (d * c) (q * c' + p' * d) (m * c' + n' * d) (d * c')
add-cross' p n c p' n' c' q m d h = omega (arith, mul-le-mul_right (d * d) h)

pub add-mono-r : (f : Format) (x y y' : Float) → T (finite x) → T (finite y) → T (finite y') → T (le y y') → T (le (add f x y) (add f x y'))
add-mono-r f x y y' p q q' h =
    rounds-mono f (add f x y) (add f x y') (pp x * den y + pp y * den x) (nn x * den y + nn y * den x) (den x * den y) (pp x * den y' + pp y' * den x)
    (nn x * den y' + nn y' * den x) (den x * den y')
    (mul-pos (den_pos x) (den_pos y)) (mul-pos (den_pos x) (den_pos y')) (add_rounds f x y p q) (add_rounds f x y' p q')
    (add-cross' (pp y) (nn y) (den y) (pp y') (nn y') (den y') (pp x) (nn x) (den x) (le→cross y y' q q' h))

pub add-mono : (f : Format) (x x' y y' : Float) → T (finite x) → T (finite x') → T (finite y) → T (finite y') → T (le x x') → T (le y y')
    → T (le (add f x y) (add f x' y'))
add-mono f x x' y y' p p' q q' h k = le-trans-float (add f x y) (add f x' y) (add f x' y') (add-mono-l f x x' y p p' q h) (add-mono-r f x' y y' p' q q' k)

pub sub-mono : (f : Format) (x x' y y' : Float) → T (finite x) → T (finite x') → T (finite y) → T (finite y') → T (le x x') → T (le y' y)
    → T (le (sub f x y) (sub f x' y'))
unfolding sub
sub-mono f x x' y y' p p' q q' h k = add-mono f x x' (neg y) (neg y') p p' (neg-finite y q) (neg-finite y' q') h (le-neg y' y k)

-- of a value that is at least zero the negative part is 0, and of one that is at most zero the positive part
pub no_minus : (y : Float) → T (finite y) → T (le zero y) → nn y ≡ 0
no_minus nan q h = absurd q
no_minus (inf t) q h = absurd q
no_minus (fin false n d) q h = refl
no_minus (fin true n d) q h = omega (arith, le→cross zero (fin true n d) tt tt h)

pub no_plus : (y : Float) → T (finite y) → T (le y zero) → pp y ≡ 0
no_plus nan q h = absurd q
no_plus (inf t) q h = absurd q
no_plus (fin true n d) q h = refl
no_plus (fin false n d) q h = omega (arith, le→cross (fin false n d) zero tt tt h)

up_cross : (p n c p' n' c' q m d : ℕ) → m ≡ 0 → Cross p n c p' n' c'
    → Cross (p * q + n * m) (p * m + n * q) (c * d) (p' * q + n' * m) (p' * m + n' * q) (c' * d)
up_cross p n c p' n' c' q m d e h = rw e (omega (arith, mul-le-mul_right (q * d) h))

down-cross : (p n c p' n' c' q m d : ℕ) → q ≡ 0 → Cross p' n' c' p n c
    → Cross (p * q + n * m) (p * m + n * q) (c * d) (p' * q + n' * m) (p' * m + n' * q) (c' * d)
down-cross p n c p' n' c' q m d e h = rw e (omega (arith, mul-le-mul_right (m * d) h))

mul-mono-at : (f : Format) (x x' y : Float) → T (finite x) → T (finite x') → T (finite y)
    → Cross (pp x * pp y + nn x * nn y) (pp x * nn y + nn x * pp y) (den x * den y) (pp x' * pp y + nn x' * nn y) (pp x' * nn y + nn x' * pp y)
    (den x' * den y) → T (le (mul f x y) (mul f x' y))
mul-mono-at f x x' y p p' q h =
    rounds-mono f (mul f x y) (mul f x' y) (pp x * pp y + nn x * nn y) (pp x * nn y + nn x * pp y) (den x * den y) (pp x' * pp y + nn x' * nn y)
    (pp x' * nn y + nn x' * pp y) (den x' * den y)
    (mul-pos (den_pos x) (den_pos y)) (mul-pos (den_pos x') (den_pos y)) (mul-rounds f x y p q) (mul-rounds f x' y p' q) h

-- a product grows with one factor where the other is not negative, and shrinks where it is not positive
pub mul-mono-l : (f : Format) (x x' y : Float) → T (finite x) → T (finite x') → T (finite y) → T (le zero y) → T (le x x') → T (le (mul f x y) (mul f x' y))
mul-mono-l f x x' y p p' q o h =
    mul-mono-at f x x' y p p' q (up_cross (pp x) (nn x) (den x) (pp x') (nn x') (den x') (pp y) (nn y) (den y) (no_minus y q o)
    (le→cross x x' p p' h))

pub mul-anti-l : (f : Format) (x x' y : Float) → T (finite x) → T (finite x') → T (finite y) → T (le y zero) → T (le x' x) → T (le (mul f x y) (mul f x' y))
mul-anti-l f x x' y p p' q o h =
    mul-mono-at f x x' y p p' q (down-cross (pp x) (nn x) (den x) (pp x') (nn x') (den x') (pp y) (nn y) (den y) (no_plus y q o)
    (le→cross x' x p' p h))

pub mul-mono-r : (f : Format) (x y y' : Float) → T (finite x) → T (finite y) → T (finite y') → T (le zero x) → T (le y y') → T (le (mul f x y) (mul f x y'))
mul-mono-r f x y y' p q q' o h = rw (mul-comm-exact f x y, mul-comm-exact f x y') (mul-mono-l f y y' x q q' p o h)

pub mul-anti-r : (f : Format) (x y y' : Float) → T (finite x) → T (finite y) → T (finite y') → T (le x zero) → T (le y' y) → T (le (mul f x y) (mul f x y'))
mul-anti-r f x y y' p q q' o h = rw (mul-comm-exact f x y, mul-comm-exact f x y') (mul-anti-l f y y' x q q' p o h)

-- a value above zero
pub pp-pos : (y : Float) → T (positive y) → 0 < pp y
pp-pos nan q = absurd q
pp-pos (inf t) q = absurd q
pp-pos (fin true n d) q = absurd q
pp-pos (fin false n d) q = mul-pos (ltb→lt 0 n q) (up_pos d)

pub positive-no-minus : (y : Float) → T (positive y) → nn y ≡ 0
positive-no-minus nan q = absurd q
positive-no-minus (inf t) q = absurd q
positive-no-minus (fin true n d) q = absurd q
positive-no-minus (fin false n d) q = refl

plain : (p n c p' n' c' : ℕ) → n ≡ 0 → n' ≡ 0 → Cross p n c p' n' c' → p * c' ≤ p' * c
plain p n c p' n' c' e e' h = omega (arith, ap (λ (z : ℕ). z * c') e, ap (λ (z : ℕ). z * c) e')

div-cross : (p c p' c' q d q' d' n n' : ℕ) → n ≡ 0 → n' ≡ 0 → p * c' ≤ p' * c → q' * d ≤ q * d' → Cross (p * d) (n * d) (q * c) (p' * d') (n' * d') (q' * c')
div-cross p c p' c' q d q' d' n n' e e' h k = rw (e, e') (omega (arith, mul-le-mul h k))

-- a quotient of values that are not negative grows with the dividend and shrinks with the divisor
pub divide-mono : (f : Format) (x x' y y' : Float) → T (finite x) → T (finite x') → T (positive y) → T (positive y') → T (le zero x) → T (le zero x')
    → T (le x x') → T (le y' y) → T (le (div f x y) (div f x' y'))
divide-mono f x x' y y' p p' q q' o o' h k =
    rounds-mono f (div f x y) (div f x' y') (pp x * den y) (nn x * den y) (pp y * den x) (pp x' * den y') (nn x' * den y') (pp y' * den x')
    (mul-pos (pp-pos y q) (den_pos x)) (mul-pos (pp-pos y' q') (den_pos x')) (div-rounds f x y p q) (div-rounds f x' y' p' q')
    (div-cross (pp x) (den x) (pp x') (den x') (pp y) (den y) (pp y') (den y') (nn x) (nn x') (no_minus x p o) (no_minus x' p' o')
    (plain (pp x) (nn x) (den x) (pp x') (nn x') (den x') (no_minus x p o) (no_minus x' p' o') (le→cross x x' p p' h))
    (plain (pp y') (nn y') (den y') (pp y) (nn y) (den y) (positive-no-minus y' q') (positive-no-minus y q)
    (le→cross y' y (positive-finite y' q') (positive-finite y q) k)))

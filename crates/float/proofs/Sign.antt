-- Signs, as data: what `neg` does to a rounding, a product and a quotient, that sums and products commute, and that a rounding with
-- the sign + has it. Assumes nothing.
use Rattle.std.proofs.Common.{◌≡◌, ℕ, zero, suc, ◌+◌, ◌-◌, ◌*◌, ◌^◌, ◌<◌, ◌≤◌, Bool, true, false, cond, not, ◌&&◌, T, eqb, ltb, sym, refl, ap, ◌∙◌, mul_comm, add_comm, arith, ltb→lt, nltb→le}
use lib.Ieee.{Float, Format, add, div, down, emax, fin, inf, low, mul, nan, neg, odd, prec, round, sum, units, unlike, up}
use lib.Ieee.Fits.{round_is}
use mathlib.Core.Bool.{beq}

-- ---- rounding
odd-neg : (d : ℕ) (s : Bool) (q k l : ℕ) → neg (odd d s q k l) ≡ odd d (not s) q k l
unfolding neg odd
odd-neg d s zero k l = refl
odd-neg d s (suc q) k l = refl

units-neg : (f : Format) (s : Bool) (q k : ℕ) → neg (units f s q k) ≡ units f (not s) q k
unfolding units
units-neg f s q k = go (ltb (q * 2 ^ k) (2 ^ (low f + suc (emax f))))
  where
    go : (b : Bool) → neg (cond b (odd (suc (prec f)) s q k (low f)) (inf s)) ≡ cond b (odd (suc (prec f)) (not s) q k (low f)) (inf (not s))
    go true = odd-neg (suc (prec f)) s q k (low f)
    go false = unfold neg in refl

pub round-neg : (f : Format) (s : Bool) (a c : ℕ) → neg (round f s a c) ≡ round f (not s) a c
round-neg f s a c = ap neg (round_is f s a c) ∙ units-neg f s _ _ ∙ sym (round_is f (not s) a c)

-- a negative rounding, by the positive one
pub round-minus : (f : Format) (a c : ℕ) → round f true a c ≡ neg (round f false a c)
round-minus f a c = sym (round-neg f false a c)

pub neg-neg : (x : Float) → neg (neg x) ≡ x
unfolding neg
neg-neg nan = refl
neg-neg (inf true) = refl
neg-neg (inf false) = refl
neg-neg (fin true m e) = refl
neg-neg (fin false m e) = refl

-- exact commutativity
clash : (a b : ℕ) → a < b → b < a → ⊥
clash a b h k = omega arith

sum_comm : (f : Format) (s : Bool) (a : ℕ) (t : Bool) (b c : ℕ) → sum f s a t b c ≡ sum f t b s a c
unfolding sum
sum_comm f s a t b c = go s t (ltb a b) (ltb b a) (ltb→lt a b) (ltb→lt b a) (nltb→le a b) (nltb→le b a)
  where
    level-off : b ≤ a → a ≤ b → a - b ≡ b - a
    level-off h k = omega arith

    go : (s t y z : Bool) → (T y → a < b) → (T z → b < a) → (T (not y) → b ≤ a) → (T (not z) → a ≤ b)
        → cond (beq s t) (round f s (a + b) c) (cond y (round f t (b - a) c) (round f (s && z) (a - b) c)) ≡ cond (beq t s)
        (round f t (b + a) c) (cond z (round f s (a - b) c) (round f (t && y) (b - a) c))
    go true true y z g h k l = rw (add_comm a b)
    go false false y z g h k l = rw (add_comm a b)
    go true false true true g h k l = absurd (clash a b (g tt) (h tt))
    go true false true false g h k l = refl
    go true false false true g h k l = refl
    go true false false false g h k l = rw (level-off (k tt) (l tt))
    go false true true true g h k l = absurd (clash a b (g tt) (h tt))
    go false true true false g h k l = refl
    go false true false true g h k l = refl
    go false true false false g h k l = rw (level-off (k tt) (l tt))

pub add-comm-exact : (f : Format) (x y : Float) → add f x y ≡ add f y x
unfolding add
add-comm-exact f nan nan = refl
add-comm-exact f nan (inf t) = refl
add-comm-exact f nan (fin t n d) = refl
add-comm-exact f (inf s) nan = refl
add-comm-exact f (inf true) (inf true) = refl
add-comm-exact f (inf true) (inf false) = refl
add-comm-exact f (inf false) (inf true) = refl
add-comm-exact f (inf false) (inf false) = refl
add-comm-exact f (inf s) (fin t n d) = refl
add-comm-exact f (fin s m e) nan = refl
add-comm-exact f (fin s m e) (inf t) = refl
add-comm-exact f (fin s m e) (fin t n d) =
    sum_comm f s (m * up e * down d) t (n * up d * down e) (down e * down d)
    ∙ ap (λ (c : ℕ). sum f t (n * up d * down e) s (m * up e * down d) c) (mul_comm (down e) (down d))

-- ---- the product
unlike-comm : (s t : Bool) → unlike s t ≡ unlike t s
unlike-comm true true = refl
unlike-comm true false = refl
unlike-comm false true = refl
unlike-comm false false = refl

pub unlike-not : (s t : Bool) → unlike (not s) t ≡ not (unlike s t)
unlike-not true true = refl
unlike-not true false = refl
unlike-not false true = refl
unlike-not false false = refl

pub mul-comm-exact : (f : Format) (x y : Float) → mul f x y ≡ mul f y x
unfolding mul
mul-comm-exact f nan nan = refl
mul-comm-exact f nan (inf t) = refl
mul-comm-exact f nan (fin t n d) = refl
mul-comm-exact f (inf s) nan = refl
mul-comm-exact f (inf s) (inf t) = ap inf (unlike-comm s t)
mul-comm-exact f (inf s) (fin t n d) = rw (unlike-comm s t)
mul-comm-exact f (fin s m e) nan = refl
mul-comm-exact f (fin s m e) (inf t) = rw (unlike-comm s t)
mul-comm-exact f (fin s m e) (fin t n d) = rw (unlike-comm s t, mul_comm (m * up e) (n * up d), mul_comm (down e) (down d))

pub neg-cond : (b : Bool) (s : Bool) → neg (cond b nan (inf s)) ≡ cond b nan (inf (not s))
unfolding neg
neg-cond true s = refl
neg-cond false s = refl

pub mul-neg-left : (f : Format) (x y : Float) → mul f (neg x) y ≡ neg (mul f x y)
unfolding mul neg
mul-neg-left f nan y = refl
mul-neg-left f (inf s) nan = refl
mul-neg-left f (inf s) (inf t) = ap inf (unlike-not s t)
mul-neg-left f (inf s) (fin t n d) = ap (λ (w : Bool). cond (eqb n 0) nan (inf w)) (unlike-not s t) ∙ sym (neg-cond (eqb n 0) (unlike s t))
mul-neg-left f (fin s m e) nan = refl
mul-neg-left f (fin s m e) (inf t) = ap (λ (w : Bool). cond (eqb m 0) nan (inf w)) (unlike-not s t) ∙ sym (neg-cond (eqb m 0) (unlike s t))
mul-neg-left f (fin s m e) (fin t n d) =
    ap (λ (w : Bool). round f w (m * up e * (n * up d)) (down e * down d)) (unlike-not s t)
    ∙ sym (round-neg f (unlike s t) (m * up e * (n * up d)) (down e * down d))

pub mul-neg-right : (f : Format) (x y : Float) → mul f x (neg y) ≡ neg (mul f x y)
mul-neg-right f x y = mul-comm-exact f x (neg y) ∙ mul-neg-left f y x ∙ ap neg (mul-comm-exact f y x)

unlike-not-right : (s t : Bool) → unlike s (not t) ≡ unlike (not s) t
unlike-not-right true true = refl
unlike-not-right true false = refl
unlike-not-right false true = refl
unlike-not-right false false = refl

pub div-neg-both : (f : Format) (x y : Float) → div f x (neg y) ≡ div f (neg x) y
unfolding div neg
div-neg-both f nan nan = refl
div-neg-both f nan (inf t) = refl
div-neg-both f nan (fin t n d) = refl
div-neg-both f (inf s) nan = refl
div-neg-both f (inf s) (inf t) = refl
div-neg-both f (inf s) (fin t n d) = rw (unlike-not-right s t)
div-neg-both f (fin s m e) nan = refl
div-neg-both f (fin s m e) (inf t) = rw (unlike-not-right s t)
div-neg-both f (fin s m e) (fin t n d) = rw (unlike-not-right s t)

-- not negative, or an infinity
abbrev pub over : Float → Bool
over nan = false
over (inf s) = not s
over (fin s m e) = not s

odd-over : (d q k l : ℕ) → T (over (odd d false q k l))
unfolding odd
odd-over d zero k l = tt
odd-over d (suc q) k l = tt

pub units-over : (f : Format) (q k : ℕ) → T (over (units f false q k))
unfolding units
units-over f q k = go (ltb (q * 2 ^ k) (2 ^ (low f + suc (emax f))))
  where
    go : (b : Bool) → T (over (cond b (odd (suc (prec f)) false q k (low f)) (inf false)))
    go true = odd-over (suc (prec f)) q k (low f)
    go false = tt

pub round-over : (f : Format) (a c : ℕ) → T (over (round f false a c))
unfolding round
round-over f a c = units-over f _ _

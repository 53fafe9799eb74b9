-- Each operation and each test gives the same number whatever the sign of a zero in it, a divisor apart, and meets `neg` as a number does. Assumes nothing.
use Prim.Native.Nat as Nat
use Rattle.std.proofs.Common.{◌≡◌, ℕ, suc, ◌+◌, ◌-◌, ◌*◌, ◌^◌, ◌<◌, ◌≤◌, Bool, true, false, cond, not, ◌&&◌, ◌||◌, T, eqb, ltb, ℤ, pos, sym, refl, ap, ◌∙◌, subst, ap₂, suc-le-suc, zero-le, add-zero, lt_irrefl, add_comm, mul-pos, zero-add, zero-mul, arith, eqb→eq, lt→ltb, nltb→le, pow_pos}
use Prim.Native.Nat.compare
use Prim.Native.Nat.{compare}
use lib.Dec.{eqb-suc-suc, eqb-suc-zero, eqb-zero-suc, leb-suc-zero}
use lib.Ieee.{Float, Format, add, below, div, down, emax, eq, fin, inf, le, level, low, lt, mul, nan, nearest, neg, round, sum, units, unlike, up}
use lib.Ieee.Fits.{and_l, round_is, up_pos}
use mathlib.Core.Bool.{beq}
use native.Mathlib.Nat.{zero-div, zero-mod}
use Rattle.float.proofs.Sign.{add-comm-exact, mul-comm-exact, neg-cond, over, round-neg, unlike-not}
use Rattle.float.specs.Notation.{zero}
use Rattle.float.specs.Same.{num}

nearest_zero : (u : ℕ) → nearest 0 (compare 0 u) ≡ 0
nearest_zero Nat.zero = refl
nearest_zero (suc u) = rw compare.zero-suc

test-true : (b : Bool) → T b → b ≡ true
test-true true t = refl
test-true false t = absurd t

units-zero : (f : Format) (s : Bool) (k : ℕ) → units f s 0 k ≡ fin s 0 (pos 0)
unfolding units
units-zero f s k = rw (zero-mul, test-true (ltb 0 (2 ^ (low f + suc (emax f)))) (lt→ltb 0 (2 ^ (low f + suc (emax f))) (pow_pos (low f + suc (emax f)))))

pub round-zero : (f : Format) (s : Bool) (c : ℕ) → round f s 0 c ≡ fin s 0 (pos 0)
round-zero f s c = round_is f s 0 c ∙ simp (zero-mul, zero-div, zero-mod, nearest_zero, units-zero)

pub round-none : (f : Format) (s : Bool) (a c : ℕ) → a ≡ 0 → num (round f s a c) ≡ fin false 0 (pos 0)
unfolding num
round-none f s a c e = rw (e, round-zero)

-- two signs of the same number of no size
round-sign : (f : Format) (s t : Bool) (a c : ℕ) → a ≡ 0 → num (round f s a c) ≡ num (round f t a c)
round-sign f s t a c e = round-none f s a c e ∙ sym (round-none f t a c e)

-- ---- num and neg
pub num-num : (x : Float) → num (num x) ≡ num x
unfolding num
num-num nan = refl
num-num (inf s) = refl
num-num (fin s Nat.zero e) = refl
num-num (fin s (suc m) e) = refl

neg-num : (x : Float) → num (neg (num x)) ≡ num (neg x)
unfolding num neg
neg-num nan = refl
neg-num (inf s) = refl
neg-num (fin s Nat.zero e) = refl
neg-num (fin s (suc m) e) = refl

pub neg-cong : (x y : Float) → num x ≡ num y → num (neg x) ≡ num (neg y)
neg-cong x y h = sym (neg-num x) ∙ ap (λ (z : Float). num (neg z)) h ∙ neg-num y

-- ---- addition: up to num the sum's sign at zero is of no account
abbrev plain : Format → Bool → ℕ → Bool → ℕ → ℕ → Float
plain f s a t b c = cond (beq s t) (round f s (a + b) c) (cond (ltb a b) (round f t (b - a) c) (round f s (a - b) c))

none_left : (a b : ℕ) → b ≤ a → a ≤ b → a - b ≡ 0
none_left a b h k = omega arith

sum-plain : (f : Format) (s : Bool) (a : ℕ) (t : Bool) (b c : ℕ) → num (sum f s a t b c) ≡ num (plain f s a t b c)
unfolding sum
sum-plain f s a t b c = eq-or (beq s t) (ltb a b) (ltb b a) (nltb→le a b) (nltb→le b a)
  where
    eq-or : (x y z : Bool) → (T (not y) → b ≤ a) → (T (not z) → a ≤ b)
        → num (cond x (round f s (a + b) c) (cond y (round f t (b - a) c) (round f (s && z) (a - b) c))) ≡ num
        (cond x (round f s (a + b) c) (cond y (round f t (b - a) c) (round f s (a - b) c)))
    eq-or true y z h k = refl
    eq-or false true z h k = refl
    eq-or false false true h k = ap (λ (w : Bool). num (round f w (a - b) c)) (and-true s)
      where
        and-true : (w : Bool) → w && true ≡ w
        and-true true = refl
        and-true false = refl
    eq-or false false false h k = round-sign f (s && false) s (a - b) c (none_left a b (h tt) (k tt))

plain-neg : (f : Format) (s : Bool) (a : ℕ) (t : Bool) (b c : ℕ) → neg (plain f s a t b c) ≡ plain f (not s) a (not t) b c
plain-neg f s a t b c = go s t (ltb a b)
  where
    go : (s t y : Bool) → neg (cond (beq s t) (round f s (a + b) c) (cond y (round f t (b - a) c) (round f s (a - b) c)))
        ≡ cond (beq (not s) (not t)) (round f (not s) (a + b) c) (cond y (round f (not t) (b - a) c) (round f (not s) (a - b) c))
    go true true y = round-neg f true (a + b) c
    go true false true = round-neg f false (b - a) c
    go true false false = round-neg f true (a - b) c
    go false true true = round-neg f true (b - a) c
    go false true false = round-neg f false (a - b) c
    go false false y = round-neg f false (a + b) c

sum-neg : (f : Format) (s : Bool) (a : ℕ) (t : Bool) (b c : ℕ) → num (sum f (not s) a (not t) b c) ≡ num (neg (sum f s a t b c))
sum-neg f s a t b c =
    sum-plain f (not s) a (not t) b c ∙ ap num (sym (plain-neg f s a t b c))
    ∙ neg-cong (plain f s a t b c) (sum f s a t b c) (sym (sum-plain f s a t b c))

-- a term of no size
sum-none : (f : Format) (s : Bool) (a : ℕ) (t : Bool) (b c : ℕ) → a ≡ 0 → num (sum f s a t b c) ≡ num (round f t b c)
sum-none f s a t b c e = sum-plain f s a t b c ∙ go s t (ltb a b) (nltb→le a b)
  where
    same : a + b ≡ b
    same = omega arith

    less : b - a ≡ b
    less = omega arith

    both : b ≤ a → a - b ≡ b
    both h = omega arith

    flat : b ≤ a → b ≡ 0
    flat h = omega arith

    go : (s t y : Bool) → (T (not y) → b ≤ a) → num (cond (beq s t) (round f s (a + b) c) (cond y (round f t (b - a) c) (round f s (a - b) c)))
        ≡ num (round f t b c)
    go true true y h = rw same
    go true false true h = rw less
    go true false false h = rw (both (h tt)) (round-sign f true false b c (flat (h tt)))
    go false true true h = rw less
    go false true false h = rw (both (h tt)) (round-sign f false true b c (flat (h tt)))
    go false false y h = rw same

zeros : (a b : ℕ) → 0 * a * b ≡ 0
zeros a b = simp zero-mul

add_left : (f : Format) (x y : Float) → num (add f (num x) y) ≡ num (add f x y)
unfolding add num
add_left f nan y = refl
add_left f (inf s) y = refl
add_left f (fin s Nat.zero e) nan = refl
add_left f (fin s Nat.zero e) (inf t) = refl
add_left f (fin s Nat.zero e) (fin t n d) =
    sum-none f false (0 * up e * down d) t (n * up d * down e) (down e * down d) (zeros (up e) (down d))
    ∙ sym (sum-none f s (0 * up e * down d) t (n * up d * down e) (down e * down d) (zeros (up e) (down d)))
add_left f (fin s (suc m) e) y = refl

add_right : (f : Format) (x y : Float) → num (add f x (num y)) ≡ num (add f x y)
add_right f x y = ap num (add-comm-exact f x (num y)) ∙ add_left f y x ∙ ap num (add-comm-exact f y x)

pub add_cong : (f : Format) (x x' y y' : Float) → num x ≡ num x' → num y ≡ num y' → num (add f x y) ≡ num (add f x' y')
add_cong f x x' y y' h k =
    sym (add_left f x y) ∙ sym (add_right f (num x) y) ∙ ap₂ (λ (a b : Float). num (add f a b)) h k ∙ add_right f (num x') y' ∙ add_left f x' y'

pub add-neg : (f : Format) (x y : Float) → num (add f (neg x) (neg y)) ≡ num (neg (add f x y))
unfolding add neg
add-neg f nan y = refl
add-neg f (inf s) nan = refl
add-neg f (inf true) (inf true) = refl
add-neg f (inf true) (inf false) = refl
add-neg f (inf false) (inf true) = refl
add-neg f (inf false) (inf false) = refl
add-neg f (inf s) (fin t n d) = refl
add-neg f (fin s m e) nan = refl
add-neg f (fin s m e) (inf t) = refl
add-neg f (fin s m e) (fin t n d) = sum-neg f s (m * up e * down d) t (n * up d * down e) (down e * down d)

mul_left : (f : Format) (x y : Float) → num (mul f (num x) y) ≡ num (mul f x y)
unfolding mul num
mul_left f nan y = refl
mul_left f (inf s) y = refl
mul_left f (fin s Nat.zero e) nan = refl
mul_left f (fin s Nat.zero e) (inf t) = refl
mul_left f (fin s Nat.zero e) (fin t n d) = round-sign f (unlike false t) (unlike s t) (0 * up e * (n * up d)) (down e * down d) (zeros (up e) (n * up d))
mul_left f (fin s (suc m) e) y = refl

mul_right : (f : Format) (x y : Float) → num (mul f x (num y)) ≡ num (mul f x y)
mul_right f x y = ap num (mul-comm-exact f x (num y)) ∙ mul_left f y x ∙ ap num (mul-comm-exact f y x)

pub mul-cong : (f : Format) (x x' y y' : Float) → num x ≡ num x' → num y ≡ num y' → num (mul f x y) ≡ num (mul f x' y')
mul-cong f x x' y y' h k =
    sym (mul_left f x y) ∙ sym (mul_right f (num x) y) ∙ ap₂ (λ (a b : Float). num (mul f a b)) h k ∙ mul_right f (num x') y' ∙ mul_left f x' y'

-- ---- the quotient. Its sign shows the sign of a zero below: there the divisor is to be the same as data, or no zero
abbrev pub nonzero : Float → Bool
nonzero nan = true
nonzero (inf s) = true
nonzero (fin s Nat.zero e) = false
nonzero (fin s (suc m) e) = true

pub num-nonzero : (x : Float) → T (nonzero x) → num x ≡ x
unfolding num
num-nonzero nan h = refl
num-nonzero (inf s) h = refl
num-nonzero (fin s Nat.zero e) h = absurd h
num-nonzero (fin s (suc m) e) h = refl

pub nonzero-num : (x : Float) → nonzero (num x) ≡ nonzero x
unfolding num
nonzero-num nan = refl
nonzero-num (inf s) = refl
nonzero-num (fin s Nat.zero e) = refl
nonzero-num (fin s (suc m) e) = refl

div-left : (f : Format) (x y : Float) → num (div f (num x) y) ≡ num (div f x y)
unfolding div num
div-left f nan y = refl
div-left f (inf s) y = refl
div-left f (fin s Nat.zero e) nan = refl
div-left f (fin s Nat.zero e) (inf t) = refl
div-left f (fin s Nat.zero e) (fin t Nat.zero d) = refl
div-left f (fin s Nat.zero e) (fin t (suc n) d) =
    rw (eqb-suc-zero n) (round-sign f (unlike false t) (unlike s t) (0 * up e * down d) (suc n * up d * down e) (zeros (up e) (down d)))
div-left f (fin s (suc m) e) y = refl

pub div-cong : (f : Format) (x x' y : Float) → num x ≡ num x' → num (div f x y) ≡ num (div f x' y)
div-cong f x x' y h = sym (div-left f x y) ∙ ap (λ (a : Float). num (div f a y)) h ∙ div-left f x' y

neg-cond₂ : (b c : Bool) (s : Bool) (x y : Float) → neg x ≡ y → neg (cond b (cond c nan (inf s)) x) ≡ cond b (cond c nan (inf (not s))) y
neg-cond₂ true c s x y h = neg-cond c s
neg-cond₂ false c s x y h = h

pub div-neg-left : (f : Format) (x y : Float) → num (div f (neg x) y) ≡ num (neg (div f x y))
unfolding div neg num
div-neg-left f nan y = refl
div-neg-left f (inf s) nan = refl
div-neg-left f (inf s) (inf t) = refl
div-neg-left f (inf s) (fin t n d) = ap (λ (w : Bool). inf w) (unlike-not s t)
div-neg-left f (fin s m e) nan = refl
div-neg-left f (fin s m e) (inf t) = refl
div-neg-left f (fin s m e) (fin t n d) =
    ap num (ap (λ (w : Bool). cond (eqb n 0) (cond (eqb m 0) nan (inf w)) (round f w (m * up e * down d) (n * up d * down e))) (unlike-not s t)
    ∙ sym (neg-cond₂ (eqb n 0) (eqb m 0) (unlike s t) (round f (unlike s t) (m * up e * down d) (n * up d * down e))
    (round f (not (unlike s t)) (m * up e * down d) (n * up d * down e)) (round-neg f (unlike s t) (m * up e * down d) (n * up d * down e))))

-- ---- comparison
below-none-left : (s t : Bool) (a b : ℕ) → a ≡ 0 → below false a t b ≡ below s a t b
below-none-left true true a b e = rw e (sym (leb-suc-zero b))
below-none-left true false a b e = rw (e, zero-add)
below-none-left false t a b e = refl

below-none-right : (s t : Bool) (a b : ℕ) → b ≡ 0 → below s a false b ≡ below s a t b
below-none-right true true a b e = rw (e, add-zero)
below-none-right false true a b e = rw e (leb-suc-zero a)
below-none-right true false a b e = refl
below-none-right false false a b e = refl

below-neg : (s t : Bool) (a b : ℕ) → below (not s) a (not t) b ≡ below t b s a
below-neg true true a b = refl
below-neg true false a b = refl
below-neg false true a b = rw (add_comm a b)
below-neg false false a b = refl

lt-left : (x y : Float) → lt (num x) y ≡ lt x y
unfolding lt num
lt-left nan y = refl
lt-left (inf s) y = refl
lt-left (fin s Nat.zero e) nan = refl
lt-left (fin s Nat.zero e) (inf t) = refl
lt-left (fin s Nat.zero e) (fin t n d) = below-none-left s t (0 * up e * down d) (n * up d * down e) (zeros (up e) (down d))
lt-left (fin s (suc m) e) y = refl

lt-right : (x y : Float) → lt x (num y) ≡ lt x y
unfolding lt num
lt-right nan y = refl
lt-right (inf s) nan = refl
lt-right (inf s) (inf t) = refl
lt-right (inf s) (fin t Nat.zero d) = refl
lt-right (inf s) (fin t (suc n) d) = refl
lt-right (fin s m e) nan = refl
lt-right (fin s m e) (inf t) = refl
lt-right (fin s m e) (fin t Nat.zero d) = below-none-right s t (m * up e * down d) (0 * up d * down e) (zeros (up d) (down e))
lt-right (fin s m e) (fin t (suc n) d) = refl

pub lt-cong : (x x' y y' : Float) → num x ≡ num x' → num y ≡ num y' → lt x y ≡ lt x' y'
lt-cong x x' y y' h k = sym (lt-left x y) ∙ sym (lt-right (num x) y) ∙ ap₂ lt h k ∙ lt-right (num x') y' ∙ lt-left x' y'

pub lt-neg : (x y : Float) → lt (neg x) (neg y) ≡ lt y x
unfolding lt neg
lt-neg nan nan = refl
lt-neg nan (inf t) = refl
lt-neg nan (fin t n d) = refl
lt-neg (inf s) nan = refl
lt-neg (inf true) (inf true) = refl
lt-neg (inf true) (inf false) = refl
lt-neg (inf false) (inf true) = refl
lt-neg (inf false) (inf false) = refl
lt-neg (inf s) (fin t n d) = refl
lt-neg (fin s m e) nan = refl
lt-neg (fin s m e) (inf true) = refl
lt-neg (fin s m e) (inf false) = refl
lt-neg (fin s m e) (fin t n d) = below-neg s t (m * up e * down d) (n * up d * down e)

or-true : (b : Bool) → (b || true) ≡ true
or-true true = refl
or-true false = refl

level-none-left : (s t : Bool) (a b : ℕ) → a ≡ 0 → level false a t b ≡ level s a t b
level-none-left s t a b e = rw e (ap (λ (z : Bool). eqb 0 b && z) (or-true (beq false t) ∙ sym (or-true (beq s t))))

level-none-right : (s t : Bool) (a b : ℕ) → b ≡ 0 → level s a false b ≡ level s a t b
level-none-right s t a b e = rw e (go (eqb a 0))
  where
    go : (z : Bool) → z && (beq s false || z) ≡ z && (beq s t || z)
    go true = or-true (beq s false) ∙ sym (or-true (beq s t))
    go false = refl

level-neg : (s t : Bool) (a b : ℕ) → level (not s) a (not t) b ≡ level s a t b
level-neg true true a b = refl
level-neg true false a b = refl
level-neg false true a b = refl
level-neg false false a b = refl

eq-left : (x y : Float) → eq (num x) y ≡ eq x y
unfolding eq num
eq-left nan y = refl
eq-left (inf s) y = refl
eq-left (fin s Nat.zero e) nan = refl
eq-left (fin s Nat.zero e) (inf t) = refl
eq-left (fin s Nat.zero e) (fin t n d) = level-none-left s t (0 * up e * down d) (n * up d * down e) (zeros (up e) (down d))
eq-left (fin s (suc m) e) y = refl

eq-right : (x y : Float) → eq x (num y) ≡ eq x y
unfolding eq num
eq-right nan y = refl
eq-right (inf s) nan = refl
eq-right (inf s) (inf t) = refl
eq-right (inf s) (fin t Nat.zero d) = refl
eq-right (inf s) (fin t (suc n) d) = refl
eq-right (fin s m e) nan = refl
eq-right (fin s m e) (inf t) = refl
eq-right (fin s m e) (fin t Nat.zero d) = level-none-right s t (m * up e * down d) (0 * up d * down e) (zeros (up d) (down e))
eq-right (fin s m e) (fin t (suc n) d) = refl

pub eq-cong : (x x' y y' : Float) → num x ≡ num x' → num y ≡ num y' → eq x y ≡ eq x' y'
eq-cong x x' y y' h k = sym (eq-left x y) ∙ sym (eq-right (num x) y) ∙ ap₂ eq h k ∙ eq-right (num x') y' ∙ eq-left x' y'

pub eq-neg : (x y : Float) → eq (neg x) (neg y) ≡ eq x y
unfolding eq neg
eq-neg nan y = refl
eq-neg (inf s) nan = refl
eq-neg (inf true) (inf true) = refl
eq-neg (inf true) (inf false) = refl
eq-neg (inf false) (inf true) = refl
eq-neg (inf false) (inf false) = refl
eq-neg (inf s) (fin t n d) = refl
eq-neg (fin s m e) nan = refl
eq-neg (fin s m e) (inf t) = refl
eq-neg (fin s m e) (fin t n d) = level-neg s t (m * up e * down d) (n * up d * down e)

eqb_comm : (a b : ℕ) → eqb a b ≡ eqb b a
eqb_comm Nat.zero Nat.zero = refl
eqb_comm Nat.zero (suc n) = eqb-zero-suc n ∙ sym (eqb-suc-zero n)
eqb_comm (suc m) Nat.zero = eqb-suc-zero m ∙ sym (eqb-zero-suc m)
eqb_comm (suc m) (suc n) = eqb-suc-suc m n ∙ eqb_comm m n ∙ sym (eqb-suc-suc n m)

level_comm : (s t : Bool) (a b : ℕ) → level s a t b ≡ level t b s a
level_comm s t a b =
    ap (λ (z : Bool). eqb a b && (z || eqb a 0)) (beq-comm s t) ∙ go (eqb a b) (eqb→eq a b)
    ∙ ap (λ (z : Bool). z && (beq t s || eqb b 0)) (eqb_comm a b)
  where
    beq-comm : (s t : Bool) → beq s t ≡ beq t s
    beq-comm true true = refl
    beq-comm true false = refl
    beq-comm false true = refl
    beq-comm false false = refl

    go : (z : Bool) → (T z → a ≡ b) → z && (beq t s || eqb a 0) ≡ z && (beq t s || eqb b 0)
    go true h = rw (h tt)
    go false h = refl

pub eq_comm : (x y : Float) → eq x y ≡ eq y x
unfolding eq
eq_comm nan nan = refl
eq_comm nan (inf t) = refl
eq_comm nan (fin t n d) = refl
eq_comm (inf s) nan = refl
eq_comm (inf true) (inf true) = refl
eq_comm (inf true) (inf false) = refl
eq_comm (inf false) (inf true) = refl
eq_comm (inf false) (inf false) = refl
eq_comm (inf s) (fin t n d) = refl
eq_comm (fin s m e) nan = refl
eq_comm (fin s m e) (inf t) = refl
eq_comm (fin s m e) (fin t n d) = level_comm s t (m * up e * down d) (n * up d * down e)

-- ---- comparison with zero
pub plus-not-below : (m : ℕ) (e : ℤ) → lt (fin false m e) zero ≡ false
unfolding lt
plus-not-below m e = rw (zero-mul (down e)) (leb-suc-zero (m * up e * 1))

pub zero-not-below : (s : Bool) (e : ℤ) → lt (fin s Nat.zero e) zero ≡ false
zero-not-below s e = sym (lt-left (fin s Nat.zero e) zero) ∙ (unfold num in plus-not-below Nat.zero e)

some_size : (m : ℕ) (e : ℤ) → 0 < suc m * up e * 1
some_size m e = mul-pos (mul-pos (suc-le-suc zero-le) (up_pos e)) (suc-le-suc zero-le)

pub minus-below : (m : ℕ) (e : ℤ) → lt (fin true (suc m) e) zero ≡ true
unfolding lt
minus-below m e = rw (zero-mul (down e), add-zero) (test-true (ltb 0 (suc m * up e * 1)) (lt→ltb 0 (suc m * up e * 1) (some_size m e)))

pub zero-is-zero : (s : Bool) (e : ℤ) → eq (fin s Nat.zero e) zero ≡ true
zero-is-zero s e = sym (eq-left (fin s Nat.zero e) zero) ∙ (unfold num eq in simp zero-mul)

test-false : (b : Bool) → (T b → ⊥) → b ≡ false
test-false true h = absurd (h tt)
test-false false h = refl

pub some-not-zero : (s : Bool) (m : ℕ) (e : ℤ) → eq (fin s (suc m) e) zero ≡ false
unfolding eq
some-not-zero s m e =
    test-false (level s (suc m * up e * 1) false (0 * down e))
    (λ t. lt_irrefl 0 (subst (λ (n : ℕ). 0 < n)
    (eqb→eq (suc m * up e * 1) (0 * down e) (and_l (eqb (suc m * up e * 1) (0 * down e)) _ t) ∙ zero-mul (down e)) (some_size m e)))

-- not on both sides of zero
pub below-not-above : (x : Float) → T (lt x zero) → T (not (lt zero x))
unfolding lt
below-not-above nan h = tt
below-not-above (inf true) h = tt
below-not-above (inf false) h = absurd h
below-not-above (fin true m e) h = tt
below-not-above (fin false m e) h = absurd (subst T (plus-not-below m e) (unfold lt in h))

pub plus-above : (m : ℕ) (e : ℤ) → lt zero (fin false (suc m) e) ≡ true
unfolding lt
plus-above m e = rw (zero-mul (down e)) (test-true (ltb 0 (suc m * up e * 1)) (lt→ltb 0 (suc m * up e * 1) (some_size m e)))

-- what has the sign + is not below zero
pub over-not-below : (x : Float) → T (over x) → lt x zero ≡ false
over-not-below nan h = absurd h
over-not-below (inf true) h = absurd h
over-not-below (inf false) h = unfold lt in refl
over-not-below (fin true m e) h = absurd h
over-not-below (fin false m e) h = plus-not-below m e

pub le-num : (x x' y y' : Float) → num x ≡ num x' → num y ≡ num y' → le x y ≡ le x' y'
unfolding le
le-num x x' y y' h k = ap₂ ◌||◌ (lt-cong x x' y y' h k) (eq-cong x x' y y' h k)

pub nonzero-below : (x : Float) → T (lt x zero) → T (nonzero x)
nonzero-below nan h = tt
nonzero-below (inf s) h = tt
nonzero-below (fin s Nat.zero e) h = subst T (zero-not-below s e) h
nonzero-below (fin s (suc m) e) h = tt

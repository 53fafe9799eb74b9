-- The mirror calculus: one law of `Rel` for each operation, test and choice, and the rule set by which the mirror law of a formula
-- is one line, `search mirror`. Assumes nothing.
use Prim.Native.Nat as Nat
use Rattle.std.proofs.Common.{◌≡◌, ℕ, suc, ◌+◌, ◌*◌, Bool, true, false, cond, not, ◌&&◌, ◌||◌, T, eqb, ltb, ℤ, sym, refl, ap, ◌∙◌, subst, ap₂, zero-mul}
use lib.Dec.{eqb_refl, leb-suc-zero}
use lib.Ieee.{Float, Format, add, binary32, div, down, eq, fin, inf, is_nan, le, lt, mul, nan, neg, round, sub, sum, unlike, up}
use Rattle.float.proofs.Sign.{div-neg-both, mul-neg-left, mul-neg-right, neg-neg, over, round-over}
use Rattle.float.proofs.Zeros.{add_cong, add-neg, div-cong, div-neg-left, eq_comm, eq-cong, eq-neg, lt-cong, lt-neg}
use Rattle.float.proofs.Zeros.{mul-cong, neg-cong, nonzero, nonzero-num, num-nonzero}
use Rattle.float.specs.Notation.{at_least_zero, clamp, zero, abs}
use Rattle.float.specs.Same.{Rel, flip, num}

-- the sign is +, or it is a NaN
abbrev pub plus_sign : Float → Bool
plus_sign nan = true
plus_sign (inf s) = not s
plus_sign (fin s m e) = not s

pub r-same : (x : Float) → Rel false x x
r-same x = record { same = refl }

pub r-flip : (p : Bool) (x : Float) → Rel p x (flip p x)
r-flip p x = record { same = refl }

pub r-opp : (x : Float) → Rel true x (neg x)
r-opp x = record { same = refl }

neg-flip : (p : Bool) (x : Float) → neg (flip p x) ≡ flip p (neg x)
neg-flip true x = refl
neg-flip false x = refl

pub r-neg : {p : Bool} {x x' : Float} → Rel p x x' → Rel p (neg x) (neg x')
r-neg {p} {x} {x'} h = record { same = neg-cong x' (flip p x) h.same ∙ ap num (neg-flip p x) }

add-flip : (p : Bool) (x y : Float) → num (add binary32 (flip p x) (flip p y)) ≡ num (flip p (add binary32 x y))
add-flip true x y = add-neg binary32 x y
add-flip false x y = refl

pub r-add : {p : Bool} {x x' y y' : Float} → Rel p x x' → Rel p y y' → Rel p (add binary32 x y) (add binary32 x' y')
r-add {p} {x} {x'} {y} {y'} h k = record { same = add_cong binary32 x' (flip p x) y' (flip p y) h.same k.same ∙ add-flip p x y }

pub r-sub : {p : Bool} {x x' y y' : Float} → Rel p x x' → Rel p y y' → Rel p (sub binary32 x y) (sub binary32 x' y')
unfolding sub
r-sub h k = r-add h (r-neg k)

mul-flip : (p q : Bool) (x y : Float) → mul binary32 (flip p x) (flip q y) ≡ flip (unlike p q) (mul binary32 x y)
mul-flip true true x y = mul-neg-left binary32 x (neg y) ∙ ap neg (mul-neg-right binary32 x y) ∙ neg-neg (mul binary32 x y)
mul-flip true false x y = mul-neg-left binary32 x y
mul-flip false true x y = mul-neg-right binary32 x y
mul-flip false false x y = refl

pub r-mul : {p q : Bool} {x x' y y' : Float} → Rel p x x' → Rel q y y' → Rel (unlike p q) (mul binary32 x y) (mul binary32 x' y')
r-mul {p} {q} {x} {x'} {y} {y'} h k = record { same = mul-cong binary32 x' (flip p x) y' (flip q y) h.same k.same ∙ ap num (mul-flip p q x y) }

div-flip : (p q : Bool) (x y : Float) → num (div binary32 (flip p x) (flip q y)) ≡ num (flip (unlike p q) (div binary32 x y))
div-flip true true x y = ap num (div-neg-both binary32 (neg x) y ∙ ap (λ (z : Float). div binary32 z y) (neg-neg x))
div-flip true false x y = div-neg-left binary32 x y
div-flip false true x y = ap num (div-neg-both binary32 x y) ∙ div-neg-left binary32 x y
div-flip false false x y = refl

-- a quotient by what is the same as data
pub r-div : {p : Bool} {x x' : Float} (y : Float) → Rel p x x' → Rel p (div binary32 x y) (div binary32 x' y)
r-div {p} {x} {x'} y h = record { same = div-cong binary32 x' (flip p x) y h.same ∙ step p }
  where
    step : (p : Bool) → num (div binary32 (flip p x) y) ≡ num (flip p (div binary32 x y))
    step true = div-neg-left binary32 x y
    step false = refl

nonzero-flip : (p : Bool) (x : Float) → nonzero (flip p x) ≡ nonzero x
unfolding neg
nonzero-flip false x = refl
nonzero-flip true nan = refl
nonzero-flip true (inf s) = refl
nonzero-flip true (fin s Nat.zero e) = refl
nonzero-flip true (fin s (suc m) e) = refl

-- what is no zero is the same as data
pub exact : {p : Bool} {x y : Float} → Rel p x y → T (nonzero x) → y ≡ flip p x
exact {p} {x} {y} h n =
    let b : nonzero y ≡ nonzero x = sym (nonzero-num y) ∙ ap nonzero h.same ∙ nonzero-num (flip p x) ∙ nonzero-flip p x in
    sym (num-nonzero y (subst T (sym b) n)) ∙ h.same ∙ num-nonzero (flip p x) (subst T (sym (nonzero-flip p x)) n)

pub r-div-by : {p q : Bool} {x x' y y' : Float} → Rel p x x' → Rel q y y' → T (nonzero y) → Rel (unlike p q) (div binary32 x y) (div binary32 x' y')
r-div-by {p} {q} {x} {x'} {y} {y'} h k n =
    record {
      same = ap (λ (z : Float). num (div binary32 x' z)) (exact k n) ∙ div-cong binary32 x' (flip p x) (flip q y) h.same
          ∙ div-flip p q x y;
    }

-- ---- tests
pub r-lt : {x x' y y' : Float} → Rel false x x' → Rel false y y' → lt x' y' ≡ lt x y
r-lt {x} {x'} {y} {y'} h k = lt-cong x' x y' y h.same k.same

pub r-lt-opp : {x x' y y' : Float} → Rel true x x' → Rel true y y' → lt x' y' ≡ lt y x
r-lt-opp {x} {x'} {y} {y'} h k = lt-cong x' (neg x) y' (neg y) h.same k.same ∙ lt-neg x y

eq_flip : (p : Bool) (x y : Float) → eq (flip p x) (flip p y) ≡ eq x y
eq_flip true x y = eq-neg x y
eq_flip false x y = refl

pub r-eq : {p : Bool} {x x' y y' : Float} → Rel p x x' → Rel p y y' → eq x' y' ≡ eq x y
r-eq {p} {x} {x'} {y} {y'} h k = eq-cong x' (flip p x) y' (flip p y) h.same k.same ∙ eq_flip p x y

pub r-le : {x x' y y' : Float} → Rel false x x' → Rel false y y' → le x' y' ≡ le x y
unfolding le
r-le h k = ap₂ ◌||◌ (r-lt h k) (r-eq h k)

pub r-le-opp : {x x' y y' : Float} → Rel true x x' → Rel true y y' → le x' y' ≡ le y x
unfolding le
r-le-opp {x} {x'} {y} {y'} h k = ap₂ ◌||◌ (r-lt-opp h k) (r-eq h k ∙ eq_comm x y)

-- ---- a choice on one test
pub r-cond : {p : Bool} {x x' y y' : Float} (b b' : Bool) → b' ≡ b → Rel p x x' → Rel p y y' → Rel p (cond b x y) (cond b' x' y')
r-cond {p} {x} {x'} {y} {y'} b b' e h k = subst (λ (z : Bool). Rel p (cond b x y) (cond z x' y')) (sym e) (go b)
  where
    go : (b : Bool) → Rel p (cond b x y) (cond b x' y')
    go true = h
    go false = k

-- the same for any relation, where each branch may lean on its test: the law for a record is one line
pub by-test : {X : Type 0} (R : X → X → Type 0) {x x' y y' : X} (b b' : Bool) → b' ≡ b → (T b → R x x') → (T (not b) → R y y') → R (cond b x y) (cond b' x' y')
by-test R {x} {x'} {y} {y'} b b' e h k = subst (λ (z : Bool). R (cond b x y) (cond z x' y')) (sym e) (go b h k)
  where
    go : (b : Bool) → (T b → R x x') → (T (not b) → R y y') → R (cond b x y) (cond b x' y')
    go true h k = h tt
    go false h k = k tt

pub r-if : {p : Bool} {x x' y y' : Float} (b b' : Bool) → b' ≡ b → (T b → Rel p x x') → (T (not b) → Rel p y y') → Rel p (cond b x y) (cond b' x' y')
r-if {p} b b' e h k = by-test (Rel p) b b' e h k

-- tests that are joined
pub same-and : (a a' b b' : Bool) → a' ≡ a → b' ≡ b → (a' && b') ≡ (a && b)
same-and a a' b b' e f = ap₂ ◌&&◌ e f

pub same_or : (a a' b b' : Bool) → a' ≡ a → b' ≡ b → (a' || b') ≡ (a || b)
same_or a a' b b' e f = ap₂ ◌||◌ e f

pub same_not : (a a' : Bool) → a' ≡ a → not a' ≡ not a
same_not a a' e = ap not e

-- equal as data
pub r-is : {x y : Float} → y ≡ x → Rel false x y
r-is e = record { same = ap num e }

-- ---- zero is its own negation
pub r-zero : (p s t : Bool) (e : ℤ) → Rel p (fin s Nat.zero e) (fin t Nat.zero e)
unfolding num neg
r-zero true s t e = record { same = refl }
r-zero false s t e = record { same = refl }

-- ---- for `search`: the laws at each parity, and the set of them. The right operand's premise stands first: it is the shorter one in a formula that is
-- grouped to the left, so that a wrong guess of its parity is dropped at once.
pub mul-ss : {x x' y y' : Float} → Rel false y y' → Rel false x x' → Rel false (mul binary32 x y) (mul binary32 x' y')
mul-ss k h = r-mul h k

pub mul-oo : {x x' y y' : Float} → Rel true y y' → Rel true x x' → Rel false (mul binary32 x y) (mul binary32 x' y')
mul-oo k h = r-mul h k

pub mul-so : {x x' y y' : Float} → Rel true y y' → Rel false x x' → Rel true (mul binary32 x y) (mul binary32 x' y')
mul-so k h = r-mul h k

pub mul-os : {x x' y y' : Float} → Rel false y y' → Rel true x x' → Rel true (mul binary32 x y) (mul binary32 x' y')
mul-os k h = r-mul h k

pub div-ss : {x x' y y' : Float} → Rel false y y' → T (nonzero y) → Rel false x x' → Rel false (div binary32 x y) (div binary32 x' y')
div-ss k n h = r-div-by h k n

pub div-oo : {x x' y y' : Float} → Rel true y y' → T (nonzero y) → Rel true x x' → Rel false (div binary32 x y) (div binary32 x' y')
div-oo k n h = r-div-by h k n

pub div-so : {x x' y y' : Float} → Rel true y y' → T (nonzero y) → Rel false x x' → Rel true (div binary32 x y) (div binary32 x' y')
div-so k n h = r-div-by h k n

pub div-os : {x x' y y' : Float} → Rel false y y' → T (nonzero y) → Rel true x x' → Rel true (div binary32 x y) (div binary32 x' y')
div-os k n h = r-div-by h k n

-- a divisor that is above something that is not negative is no zero
pub nonzero-above : (c y : Float) → T (plus_sign c) → T (lt c y) → T (nonzero y)
unfolding lt
nonzero-above nan y p h = absurd h
nonzero-above (inf true) y p h = absurd p
nonzero-above (inf false) nan p h = tt
nonzero-above (inf false) (inf t) p h = tt
nonzero-above (inf false) (fin t Nat.zero d) p h = absurd h
nonzero-above (inf false) (fin t (suc n) d) p h = tt
nonzero-above (fin true m e) y p h = absurd p
nonzero-above (fin false m e) nan p h = tt
nonzero-above (fin false m e) (inf t) p h = tt
nonzero-above (fin false m e) (fin true Nat.zero d) p h = absurd h
nonzero-above (fin false m e) (fin false Nat.zero d) p h =
    absurd (subst T (ap (λ (z : ℕ). ltb (m * up e * down d) z) (simp zero-mul) ∙ leb-suc-zero (m * up e * down d)) h)
nonzero-above (fin false m e) (fin t (suc n) d) p h = tt

abs-num : (x : Float) → abs (num x) ≡ abs x
unfolding abs num
abs-num nan = refl
abs-num (inf s) = refl
abs-num (fin s Nat.zero e) = refl
abs-num (fin s (suc m) e) = refl

abs-flip : (p : Bool) (x : Float) → abs (flip p x) ≡ abs x
unfolding abs neg
abs-flip false x = refl
abs-flip true nan = refl
abs-flip true (inf s) = refl
abs-flip true (fin s Nat.zero e) = refl
abs-flip true (fin s (suc m) e) = refl

-- the same number and the opposite one have one size, as data
pub size_is : {p : Bool} {x x' : Float} → Rel p x x' → abs x' ≡ abs x
size_is {p} {x} {x'} h = sym (abs-num x') ∙ ap abs h.same ∙ abs-num (flip p x) ∙ abs-flip p x

pub r-size : {p : Bool} {x x' : Float} → Rel p x x' → Rel false (abs x) (abs x')
r-size h = r-is (size_is h)

-- max(a, 0)
pub r-at-least-zero : {x x' : Float} → Rel false x x' → Rel false (at_least_zero x) (at_least_zero x')
unfolding at_least_zero
r-at-least-zero {x} {x'} h = r-cond (lt zero x) (lt zero x') (r-lt (r-same zero) h) h (r-same zero)

-- ---- a clamp to [-l, l]
-- above l and below -l: not both
apart : (l x : Float) → T (plus_sign l) → T (lt l x) → T (lt x (neg l)) → ⊥
unfolding lt neg
apart nan x p h k = h
apart (inf true) x p h k = p
apart (inf false) nan p h k = h
apart (inf false) (inf t) p h k = h
apart (inf false) (fin t n d) p h k = h
apart (fin true m e) x p h k = p
apart (fin false m e) nan p h k = h
apart (fin false m e) (inf true) p h k = h
apart (fin false m e) (inf false) p h k = k
apart (fin false m e) (fin true n d) p h k = h
apart (fin false m e) (fin false n d) p h k = k

pick : (a b : Bool) (l x : Float) → (T a → T b → ⊥) → neg (cond b (neg l) (cond a l x)) ≡ cond a (neg l) (cond b l (neg x))
pick true true l x h = absurd (h tt tt)
pick true false l x h = refl
pick false true l x h = neg-neg l
pick false false l x h = refl

pub r-clamp : {x x' : Float} (l : Float) → T (plus_sign l) → Rel true x x' → Rel true (clamp (neg l) l x) (clamp (neg l) l x')
unfolding clamp
r-clamp {x} {x'} l p h =
    let a : lt l x' ≡ lt x (neg l) = lt-cong l (neg (neg l)) x' (neg x) (ap num (sym (neg-neg l))) h.same ∙ lt-neg (neg l) x in
    let b : lt x' (neg l) ≡ lt l x = lt-cong x' (neg x) (neg l) (neg l) h.same refl ∙ lt-neg x l in
    record {
      same = ap₂ (λ (u v : Bool). num (cond u (neg l) (cond v l x'))) b a ∙ go (lt l x) (lt x (neg l))
          ∙ ap num (sym (pick (lt l x) (lt x (neg l)) l x (apart l x p)));
    }
  where
    go : (u v : Bool) → num (cond u (neg l) (cond v l x')) ≡ num (cond u (neg l) (cond v l (neg x)))
    go true v = refl
    go false true = refl
    go false false = h.same

-- a clamp to any range, of the same number
pub r-clamp-same : {x x' : Float} (lo hi : Float) → Rel false x x' → Rel false (clamp lo hi x) (clamp lo hi x')
unfolding clamp
r-clamp-same {x} {x'} lo hi h = r-cond (lt x lo) (lt x' lo) (r-lt h (r-same lo)) (r-same lo) (r-cond (lt hi x) (lt hi x') (r-lt (r-same hi) h) (r-same hi) h)

-- ---- a value with the sign + is its own `num`
pub num-plus : (x : Float) → T (plus_sign x) → num x ≡ x
unfolding num
num-plus nan h = refl
num-plus (inf s) h = refl
num-plus (fin true m e) h = absurd h
num-plus (fin false Nat.zero e) h = refl
num-plus (fin false (suc m) e) h = refl

pub exact-plus : {x y : Float} → Rel false x y → T (plus_sign x) → T (plus_sign y) → y ≡ x
exact-plus {x} {y} h p q = sym (num-plus y q) ∙ h.same ∙ num-plus x p

over-plus : (x : Float) → T (over x) → T (plus_sign x)
over-plus nan h = tt
over-plus (inf s) h = h
over-plus (fin s m e) h = h

round-plus : (f : Format) (a c : ℕ) → T (plus_sign (round f false a c))
round-plus f a c = over-plus (round f false a c) (round-over f a c)

pub square-plus : (f : Format) (x : Float) → T (plus_sign (mul f x x))
unfolding mul
square-plus f nan = tt
square-plus f (inf true) = tt
square-plus f (inf false) = tt
square-plus f (fin true m e) = round-plus f (m * up e * (m * up e)) (down e * down e)
square-plus f (fin false m e) = round-plus f (m * up e * (m * up e)) (down e * down e)

pub add-plus : (f : Format) (x y : Float) → T (plus_sign x) → T (plus_sign y) → T (plus_sign (add f x y))
unfolding add
add-plus f nan y p q = tt
add-plus f (inf s) nan p q = tt
add-plus f (inf true) (inf t) p q = absurd p
add-plus f (inf false) (inf true) p q = absurd q
add-plus f (inf false) (inf false) p q = tt
add-plus f (inf s) (fin t n d) p q = p
add-plus f (fin s m e) nan p q = tt
add-plus f (fin s m e) (inf t) p q = q
add-plus f (fin true m e) (fin t n d) p q = absurd p
add-plus f (fin false m e) (fin true n d) p q = absurd q
add-plus f (fin false m e) (fin false n d) p q = unfold sum in round-plus f (m * up e * down d + n * up d * down e) (down e * down d)

test-true : (b : Bool) → T b → b ≡ true
test-true true t = refl
test-true false t = absurd t

-- ---- in Rust's words: `y == x` or `y == -x`, unless x is a NaN, and then y is one
eq_self : (x : Float) → is_nan x ≡ false → eq x x ≡ true
unfolding eq is_nan
eq_self nan h = sym h
eq_self (inf true) h = refl
eq_self (inf false) h = refl
eq_self (fin true m e) h = rw (test-true (eqb (m * up e * down e) (m * up e * down e)) (eqb_refl (m * up e * down e)))
eq_self (fin false m e) h = rw (test-true (eqb (m * up e * down e) (m * up e * down e)) (eqb_refl (m * up e * down e)))

is_nan-num : (x : Float) → is_nan (num x) ≡ is_nan x
unfolding is_nan num
is_nan-num nan = refl
is_nan-num (inf s) = refl
is_nan-num (fin s Nat.zero e) = refl
is_nan-num (fin s (suc m) e) = refl

is_nan-flip : (p : Bool) (x : Float) → is_nan (flip p x) ≡ is_nan x
unfolding is_nan neg
is_nan-flip false x = refl
is_nan-flip true nan = refl
is_nan-flip true (inf s) = refl
is_nan-flip true (fin s m e) = refl

pub rel-nan : {p : Bool} {x y : Float} → Rel p x y → is_nan y ≡ is_nan x
rel-nan {p} {x} {y} h = sym (is_nan-num y) ∙ ap is_nan h.same ∙ is_nan-num (flip p x) ∙ is_nan-flip p x

pub rel-equal : {p : Bool} {x y : Float} → Rel p x y → is_nan x ≡ false → eq y (flip p x) ≡ true
rel-equal {p} {x} {y} h n = eq-cong y (flip p x) (flip p x) (flip p x) h.same refl ∙ eq_self (flip p x) (is_nan-flip p x ∙ n)

-- max(a, 0) of the same number is the same as data: what is above 0 is no zero, and else it is +0
pub at-least-zero-is : {x x' : Float} → Rel false x x' → at_least_zero x' ≡ at_least_zero x
unfolding at_least_zero
at-least-zero-is {x} {x'} h = rw (r-lt (r-same zero) h) (go (lt zero x) (λ t. nonzero-above zero x tt t))
  where
    go : (b : Bool) → (T b → T (nonzero x)) → cond b x' zero ≡ cond b x zero
    go true n = exact h (n tt)
    go false n = refl

-- the rule set
pub ruleset mirror = (
  tt,
  r-same,
  r-zero,
  r-add,
  r-sub,
  r-neg,
  mul-ss,
  mul-oo,
  mul-so,
  mul-os,
  r-div,
  div-ss,
  div-oo,
  div-so,
  div-os,
  nonzero-above,
  r-if,
  r-lt,
  r-lt-opp,
  r-le,
  r-le-opp,
  r-eq,
  same-and,
  same_or,
  same_not,
  r-size,
  r-at-least-zero,
)

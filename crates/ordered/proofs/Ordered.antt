-- Tests in a row: what a loop over them finds, what it means that none fails, and that rows of equal tests have one answer. Assumes nothing.
use Prim.Native.Nat.{◌+◌, ◌-◌, ◌<◌, ◌≤◌, suc, zero, ℕ}
use lib.Dec.{eqb, eqb-suc-zero}
use mathlib.Core.Bool.{Bool, cond, false, false≢true, not, true, true≢false}
use mathlib.Core.Logic.{◌⊎◌, inl, inr}
use mathlib.Core.Path.{◌∙◌, ◌≡◌, ap, ap₂, refl, sym}
use native.Mathlib.Nat.{eq-or-lt_of_le, suc-ne-zero, zero-add}
use native.Mathlib.Numerals.{add-one}
use native.Mathlib.Omega.{arith}
use Rattle.std.specs.Prelude.{Option, Some, None, is_some}
use Rattle.std.specs.Option.{option_map, option_or}
use Rattle.ordered.specs.Ordered.{after, all_pass, first_fail, or_else, unless_zero}

-- ---- a loop over the tests below n, at i
pub from_start : (ok : ℕ → Bool) (n : ℕ) → first_fail ok 0 n ≡ first_fail ok 0 (n - 0)
from_start ok n = ap (first_fail ok 0) (omega arith)

pub fail-next : (ok : ℕ → Bool) (i n : ℕ) → i < n → ok i ≡ true → first_fail ok i (n - i) ≡ first_fail ok (i + 1) (n - (i + 1))
unfolding first_fail
fail-next ok i n l e = ap (first_fail ok i) (less i n l) ∙ (rw e (rw (add-one i) refl))
  where
    less : (i n : ℕ) → i < n → n - i ≡ suc (n - (i + 1))
    less i n l = omega arith

pub fail-here : (ok : ℕ → Bool) (i n : ℕ) → i < n → ok i ≡ false → first_fail ok i (n - i) ≡ i + 1
unfolding first_fail
fail-here ok i n l e = ap (first_fail ok i) (less i n l) ∙ (rw e (sym (add-one i)))
  where
    less : (i n : ℕ) → i < n → n - i ≡ suc (n - (i + 1))
    less i n l = omega arith

pub fail-end : (ok : ℕ → Bool) (i n : ℕ) → n ≤ i → first_fail ok i (n - i) ≡ 0
unfolding first_fail
fail-end ok i n l = ap (first_fail ok i) (none i n l)
  where
    none : (i n : ℕ) → n ≤ i → n - i ≡ 0
    none i n l = omega arith

-- ---- where none fails, each holds
cond-none : (b : Bool) (x y : ℕ) → cond b x (suc y) ≡ 0 → (b ≡ true) × (x ≡ 0)
cond-none true x y e = (refl, e)
cond-none false x y e = absurd (suc-ne-zero y e)

all_hold : (ok : ℕ → Bool) (i n : ℕ) → first_fail ok i n ≡ 0 → (k : ℕ) → k < n → ok (i + k) ≡ true
unfolding first_fail
all_hold ok i zero e k l = absurd (none k l)
  where
    none : (k : ℕ) → k < 0 → ⊥
    none k l = omega arith
all_hold ok i (suc n) e zero l = ap ok (omega arith) ∙ (cond-none (ok i) (first_fail ok (suc i) n) i e).0
all_hold ok i (suc n) e (suc k) l = ap ok (shift i k) ∙ all_hold ok (suc i) n (cond-none (ok i) (first_fail ok (suc i) n) i e).1 k (omega (arith, l))
  where
    shift : (i k : ℕ) → i + suc k ≡ suc i + k
    shift i k = omega arith

pub all-pass : (ok : ℕ → Bool) (n : ℕ) → first_fail ok 0 n ≡ 0 → (k : ℕ) → k < n → ok k ≡ true
all-pass ok n e k l = sym (ap ok (zero-add k)) ∙ all_hold ok 0 n e k l

-- ---- where each holds, none fails
pub none-fails : (ok : ℕ → Bool) (i n : ℕ) → ((k : ℕ) → k < i + n → ok k ≡ true) → first_fail ok i n ≡ 0
unfolding first_fail
none-fails ok i zero h = refl
none-fails ok i (suc n) h = rw (h i (omega arith)) (none-fails ok (suc i) n (λ k l. h k (omega (arith, l))))

-- ---- equal tests
both : (t u : Bool) → cond t u false ≡ true → (t ≡ true) × (u ≡ true)
both true u e = (refl, e)
both false u e = absurd (false≢true e)

pub pass-each : (ok : ℕ → Bool) (n : ℕ) → all_pass ok n ≡ true → (k : ℕ) → k < n → ok k ≡ true
unfolding all_pass
pass-each ok zero e k l = absurd (none k l)
  where
    none : (k : ℕ) → k < 0 → ⊥
    none k l = omega arith
pass-each ok (suc n) e k l = go (λ p. pass-each ok n (both (ok n) (all_pass ok n) e).1 k p) (eq-or-lt_of_le (below k l))
  where
    below : (k : ℕ) → k < suc n → k ≤ n
    below k l = omega arith

    go : (k < n → ok k ≡ true) → (k ≡ n) ⊎ (k < n) → ok k ≡ true
    go lower (inl p) = ap ok p ∙ (both (ok n) (all_pass ok n) e).0
    go lower (inr p) = lower p

pub pass-none : (ok : ℕ → Bool) (n : ℕ) → all_pass ok n ≡ true → first_fail ok 0 n ≡ 0
pass-none ok n e = none-fails ok 0 n (λ k l. pass-each ok n e k (omega (arith, l)))

pub each-pass : (ok : ℕ → Bool) (n : ℕ) → ((k : ℕ) → k < n → ok k ≡ true) → all_pass ok n ≡ true
unfolding all_pass
each-pass ok zero h = refl
each-pass ok (suc n) h = rw (h n (omega arith)) (each-pass ok n (λ k l. h k (omega (arith, l))))

pub pass-some : (ok : ℕ → Bool) (n : ℕ) → all_pass ok n ≡ false → first_fail ok 0 n ≡ 0 → ⊥
pass-some ok n e z = false≢true (sym e ∙ each-pass ok n (all-pass ok n z))

-- one test more, in a loop that keeps whether all passed
pub pass-more : (ok : ℕ → Bool) (n : ℕ) (t r : Bool) → t ≡ all_pass ok n → r ≡ cond (ok n) t false → r ≡ all_pass ok (n + 1)
unfolding all_pass
pass-more ok n t r e h = h ∙ ap (λ (b : Bool). cond (ok n) b false) e ∙ ap (all_pass ok) (sym (add-one n))

pub fail-same : {ok ok' : ℕ → Bool} (i n : ℕ) → ((k : ℕ) → ok' k ≡ ok k) → first_fail ok' i n ≡ first_fail ok i n
unfolding first_fail
fail-same i zero h = refl
fail-same {ok} {ok'} i (suc n) h = ap₂ (λ (b : Bool) (x : ℕ). cond b x (suc i)) (h i) (fail-same (suc i) n h)

-- ---- rows in a row
pub or-none : (a b : ℕ) → or_else a b ≡ 0 → (a ≡ 0) × (b ≡ 0)
unfolding or_else
or-none zero b e = (refl, e)
or-none (suc a) b e = absurd (suc-ne-zero a (sym (ap (λ (t : Bool). cond t b (suc a)) (eqb-suc-zero a)) ∙ e))

pub after_none : (n f : ℕ) → after n f ≡ 0 → f ≡ 0
unfolding after
after_none n zero e = refl
after_none n (suc f) e = absurd (none n f (sym (ap (λ (t : Bool). cond t 0 (n + suc f)) (eqb-suc-zero f)) ∙ e))
  where
    none : (n f : ℕ) → n + suc f ≡ 0 → ⊥
    none n f e = omega arith

-- ---- a test that the code asks the other way round
not-not : (b : Bool) → not (not b) ≡ b
not-not true = refl
not-not false = refl

-- ---- the same of numbers as options
pub or-option : (a b : ℕ) → option_or (unless_zero a) (unless_zero b) ≡ unless_zero (or_else a b)
unfolding unless_zero or_else
or-option zero b = refl
or-option (suc a) b = rw (eqb-suc-zero a)

pub or-assoc : (a b c : ℕ) → or_else (or_else a b) c ≡ or_else a (or_else b c)
unfolding or_else
or-assoc zero b c = refl
or-assoc (suc a) b c = rw (eqb-suc-zero a) (rw (eqb-suc-zero a) refl)

-- none before, and none behind
pub or-last : (b : ℕ) → or_else 0 b ≡ b
unfolding or_else
or-last b = refl

pub or-zero-last : (a : ℕ) → or_else a 0 ≡ a
unfolding or_else
or-zero-last zero = refl
or-zero-last (suc a) = rw (eqb-suc-zero a)

pub after-option : (n f : ℕ) → option_map (λ (k : ℕ). n + k) (unless_zero f) ≡ unless_zero (after n f)
unfolding unless_zero after
after-option n zero = refl
after-option n (suc f) = rw (eqb-suc-zero f) (some-sum n f)
  where
    more : (n f : ℕ) → n + suc f ≡ suc (n + f)
    more n f = omega arith

    some-sum : (n f : ℕ) → ◌≡◌ {A = Option ℕ} (Some (n + suc f)) (unless_zero (n + suc f))
    some-sum n f = ap (λ (k : ℕ). Some k) (more n f) ∙ sym (ap unless_zero (more n f))

pub none-zero : (n : ℕ) → unless_zero n ≡ None → n ≡ 0
unfolding unless_zero
none-zero zero e = refl
none-zero (suc n) e = let z : ◌≡◌ {A = ℕ} 0 1 = cc in absurd (omega arith)

pub some-number : (n p : ℕ) → unless_zero n ≡ Some p → (n ≡ p) × (n ≡ 0 → ⊥)
unfolding unless_zero
some-number zero p e = let z : ◌≡◌ {A = ℕ} 0 1 = cc in absurd (omega arith)
some-number (suc n) p e = (cc, suc-ne-zero n)

pub zero-none : (n : ℕ) → n ≡ 0 → unless_zero n ≡ None
unfolding unless_zero
zero-none n e = rw e refl

-- whether there is one
pub is-some-eqb : (n : ℕ) → is_some (unless_zero n) ≡ not (eqb n 0)
unfolding unless_zero
is-some-eqb zero = refl
is-some-eqb (suc n) = rw (eqb-suc-zero n) refl

pub none-eqb : (n : ℕ) (o : Option ℕ) (t : Bool) → o ≡ unless_zero n → is_some o ≡ not t → t ≡ eqb n 0
none-eqb n o t e h = sym (not-not t) ∙ ap not (sym h ∙ ap is_some e ∙ is-some-eqb n) ∙ not-not (eqb n 0)

pub is-some-not-zero : (n : ℕ) → is_some (unless_zero n) ≡ true → n ≡ 0 → ⊥
is-some-not-zero n e z = false≢true (sym (ap (λ (k : ℕ). is_some (unless_zero k)) z ∙ is-some-eqb 0) ∙ e)

pub not-some-zero : (n : ℕ) → is_some (unless_zero n) ≡ false → n ≡ 0
unfolding unless_zero
not-some-zero zero e = refl
not-some-zero (suc n) e = absurd (true≢false e)

pub here-some : (n i : ℕ) → n ≡ i + 1 → unless_zero n ≡ Some (i + 1)
unfolding unless_zero
here-some n i e = rw (e, add-one i) refl

pub some-is : (n : ℕ) → (n ≡ 0 → ⊥) → unless_zero n ≡ Some n
unfolding unless_zero
some-is zero h = absurd (h refl)
some-is (suc n) h = refl

-- a number that is not 0
pub some-eqb : (n : ℕ) → (n ≡ 0 → ⊥) → eqb n 0 ≡ false
some-eqb zero h = absurd (h refl)
some-eqb (suc n) h = eqb-suc-zero n

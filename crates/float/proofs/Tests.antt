-- The side that a test takes; and many tests at once, computed: a list of them, and one at every number below a bound. Assumes nothing.
use Rattle.std.proofs.Common.{◌≡◌, ℕ, zero, suc, ◌<◌, Bool, true, false, cond, ◌&&◌, T, List, [], ◌∷◌, sym, refl, subst, inl, inr, le_of_suc-le-suc, eq-or-lt_of_le, arith}
use lib.Ieee.Fits.{and_l, and_r}

-- ---- what holds of both sides of a test holds of the one it takes
pub either : {X : Type 0} (P : X → Type 0) (t : Bool) {x y : X} → P x → P y → P (cond t x y)
either P true p q = p
either P false p q = q

-- and the first side may know that the test passed
pub by_cases : {X : Type 0} (P : X → Type 0) {x y : X} (b : Bool) → (b ≡ true → P x) → P y → P (cond b x y)
by_cases P true h k = h refl
by_cases P false h k = k

-- ---- many tests at once
abbrev pub allb : List Bool → Bool
allb [] = true
allb (c ∷ cs) = c && allb cs

abbrev pub All : List Bool → Type 0
All [] = Unit {0}
All (c ∷ cs) = T c × All cs

pub all→ : (cs : List Bool) → T (allb cs) → All cs
all→ [] t = tt
all→ (c ∷ cs) t = (and_l c (allb cs) t, all→ cs (and_r c (allb cs) t))

-- one test at every number below n
unfoldable pub every_below : (ℕ → Bool) → ℕ → Bool
every_below t zero = true
every_below t (suc n) = t n && every_below t n

pub every_below→ : (t : ℕ → Bool) (n : ℕ) → T (every_below t n) → (j : ℕ) → j < n → T (t j)
unfolding every_below
every_below→ t zero h j l = absurd (none j l)
  where
    none : (j : ℕ) → j < 0 → ⊥
    none j l = omega arith
every_below→ t (suc n) h j l =
    elim (eq-or-lt_of_le (le_of_suc-le-suc l)) [
      | inl e ↦ subst (λ (k : ℕ). T (t k)) (sym e) (and_l (t n) (every_below t n) h)
      | inr k ↦ every_below→ t n
          (and_r (t n) (every_below t n) h) j k
    ]

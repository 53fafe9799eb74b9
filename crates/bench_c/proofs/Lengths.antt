-- What the lengths of arrays that fit are: each test that was passed tells its own. Assumes nothing.
use Prim.Native.Nat.{suc, ℕ}
use lib.Ieee.{Float}
use lib.ListN.{length, set}
use mathlib.Core.List.{List, [], ◌∷◌}
use native.Mathlib.Omega.{arith}
use borrow.Author.Tests.{eqb-true}
use lib.Dec.{eqb}
use mathlib.Core.Bool.{Bool, ◌&&◌, false, true}
use mathlib.Core.Path.{◌≡◌, refl}
use Rattle.arrays.specs.Flight.{state_numbers_count, tick_numbers_count}
use Rattle.bench_c.specs.Library.{pair_lengths, report_numbers_count, tick_lengths}

-- both sides of a test that is passed
first : (t u : Bool) → (t && u) ≡ true → t ≡ true
first true u e = refl
first false u e = e

second : (t u : Bool) → (t && u) ≡ true → u ≡ true
second true u e = e
second false true e = refl
second false false e = e

-- the three arrays of a tick
pub arrays_fit : (s t r : ℕ) → tick_lengths s t r ≡ true → (s ≡ state_numbers_count) × ((t ≡ tick_numbers_count) × (r ≡ report_numbers_count))
unfolding tick_lengths
arrays_fit s t r e =
    let f = first (eqb s state_numbers_count && eqb t tick_numbers_count) (eqb r report_numbers_count) e in (
      eqb-true s state_numbers_count (first (eqb s state_numbers_count) _ f),
      (
        eqb-true t tick_numbers_count (second (eqb s state_numbers_count) _ f),
        eqb-true r report_numbers_count (second (eqb s state_numbers_count && eqb t tick_numbers_count) _ e),
      ),
    )

-- the two arrays of a pair
pub pair_fits : (s r : ℕ) → pair_lengths s r ≡ true → (s ≡ state_numbers_count) × (r ≡ state_numbers_count)
unfolding pair_lengths
pair_fits s r e = (eqb-true s state_numbers_count (first (eqb s state_numbers_count) _ e), eqb-true r state_numbers_count (second (eqb s state_numbers_count) _ e))

-- an array of 3 with each number set
pub set_three : (xs : List Float) (a b c : Float) → length xs ≡ 3 → set (set (set xs 0 a) 1 b) 2 c ≡ a ∷ b ∷ c ∷ []
set_three [] a b c e = absurd (zero-not e)
  where
    zero-not : ◌≡◌ {A = ℕ} 0 3 → ⊥
    zero-not e = omega arith
set_three (x ∷ []) a b c e = absurd (one-not e)
  where
    one-not : ◌≡◌ {A = ℕ} 1 3 → ⊥
    one-not e = omega arith
set_three (x ∷ y ∷ []) a b c e = absurd (two-not e)
  where
    two-not : ◌≡◌ {A = ℕ} 2 3 → ⊥
    two-not e = omega arith
set_three (x ∷ y ∷ z ∷ []) a b c e = refl
set_three (x ∷ y ∷ z ∷ w ∷ ws) a b c e = absurd (more-not (length ws) e)
  where
    more-not : (n : ℕ) → suc (suc (suc (suc n))) ≡ 3 → ⊥
    more-not n e = omega arith

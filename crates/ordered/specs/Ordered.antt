-- Tests in a row: the number of the first that fails, counted from 1; 0 where none does. Definitions only.
use Rattle.std.specs.Prelude.{◌+◌, suc, zero, ℕ, eqb, Bool, cond, false, true, List, [], ◌∷◌, Option, Some, None}

-- the tests with the indexes from i, n of them
unfoldable pub first_fail : (ℕ → Bool) → ℕ → ℕ → ℕ
first_fail ok i zero = 0
first_fail ok i (suc n) = cond (ok i) (first_fail ok (suc i) n) (suc i)

-- the number of a failed test, as the code has it: none for 0
unfoldable pub unless_zero : ℕ → Option ℕ
unless_zero zero = None
unless_zero (suc n) = Some (suc n)

-- one row of tests after another, which has n tests
unfoldable pub or_else : ℕ → ℕ → ℕ
or_else a b = cond (eqb a 0) b a

unfoldable pub after : ℕ → ℕ → ℕ
after n f = cond (eqb f 0) 0 (n + f)

-- a list of parts, each with the number of its first failed test or 0: the first number that is not 0
abbrev pub first_of : List ℕ → ℕ
first_of [] = 0
first_of (a ∷ []) = a
first_of (a ∷ b ∷ more) = or_else a (first_of (b ∷ more))

-- whether the first n tests all pass
unfoldable pub all_pass : (ℕ → Bool) → ℕ → Bool
all_pass ok zero = true
all_pass ok (suc n) = cond (ok n) (all_pass ok n) false

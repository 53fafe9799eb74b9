-- A list by its indexes. Definitions only.
use Rattle.std.specs.Prelude.{ℕ, zero, suc, List, [], ◌∷◌}

-- the values f 0, f 1, .. of n indexes, from the index i on
unfoldable pub list_from : {X : Type 0} → (ℕ → X) → ℕ → ℕ → List X
list_from f i zero = []
list_from f i (suc n) = f i ∷ list_from f (suc i) n

unfoldable pub list_of : {X : Type 0} → (ℕ → X) → ℕ → List X
list_of f n = list_from f 0 n

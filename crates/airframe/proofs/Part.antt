-- Some elements of a list in a row, from the one at a on: each is the list's own. Assumes nothing.
use Prim.Native.Nat.{◌+◌, ◌-◌, ◌<◌, ℕ}
use lib.ListN.{drop, get_or, take}
use mathlib.Core.List.{List}
use mathlib.Core.Path.{◌∙◌, ◌≡◌}
use native.Mathlib.Omega.{arith}
use Rattle.std.proofs.lemmas.List.{get_or-drop, get_or-take}

-- between a and a + n
pub part-at : {X : Type 0} (d : X) (xs : List X) (a n k : ℕ) → k < n → get_or (take (a + n - a) (drop a xs)) k d ≡ get_or xs (a + k) d
part-at d xs a n k l = get_or-take (a + n - a) (drop a xs) k d (omega arith) ∙ get_or-drop a xs k d

-- A walk over a list of rows: what is left of it at an index is one row put and what is left after, and at the end nothing. Rests
-- on the list's length alone. Assumes nothing.
use Prim.Native.Nat.{ℕ, suc, zero, ◌<◌, ◌≤◌}
use lib.ListN.{drop, drop_of_length-le, get_or, length}
use mathlib.Core.List.{List, [], ◌∷◌}
use mathlib.Core.Path.{◌≡◌, ap, refl}
use native.Mathlib.Nat.{le_of_suc-le-suc, not-suc-le-zero}
use Rattle.mixers.specs.Rows.{no_row}
use Rattle.mixers.specs.declared.MixRow.{MixRow}
use Rattle.lent_rows.specs.Mixing.{mix_from, put_row}
use Rattle.lent_rows.specs.declared.Mix.{Mix}

-- one row is taken off what is left of the list
drop-one : (rows : List MixRow) (i : ℕ) → i < length rows → drop i rows ≡ get_or rows i no_row ∷ drop (suc i) rows
drop-one [] i l = absurd (not-suc-le-zero l)
drop-one (row ∷ rows) zero l = refl
drop-one (row ∷ rows) (suc i) l = drop-one rows i (le_of_suc-le-suc l)

-- so what is left of the walk at i is one row put, and what is left after it
pub mix-step : (rows : List MixRow) (i : ℕ) (m : Mix) → i < length rows → mix_from m (drop i rows) ≡ mix_from (put_row m (get_or rows i no_row)) (drop (suc i) rows)
unfolding mix_from
mix-step rows i m l = ap (mix_from m) (drop-one rows i l)

-- and at the end nothing is left
pub mix-end : (rows : List MixRow) (i : ℕ) (m : Mix) → length rows ≤ i → mix_from m (drop i rows) ≡ m
unfolding mix_from
mix-end rows i m l = ap (mix_from m) (drop_of_length-le rows l)

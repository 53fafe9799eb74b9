-- The density in a reflected flight: a height and the same height, whatever the sign of a zero, have the same density, as data. Assumes nothing.
use Prim.Native.Nat.{suc, zero, ℕ}
use lib.Ieee.{Float, le}
use mathlib.Core.Bool.{false}
use mathlib.Core.Path.{◌≡◌, refl}
use Rattle.float.proofs.Mirror.{exact, r-add, r-cond, r-div, r-le, r-mul, r-same, r-sub}
use Rattle.float.specs.Notation.{rounded}
use Rattle.float.specs.Same.{Rel}
use Rattle.air.proofs.Range.{density-nonzero}
use Rattle.air.specs.Density.{between, density_at, density_of, height_of, last_row, row_down_from}

row_is : {h h' : Float} (n : ℕ) → Rel false h h' → row_down_from n h' ≡ row_down_from n h
unfolding row_down_from
row_is zero r = refl
row_is (suc n) r = rw (r-le (r-same (height_of (suc n))) r, row_is n r)

between-same : {h h' : Float} (i : ℕ) → Rel false h h' → Rel false (between i h) (between i h')
unfolding between
between-same i r = r-add (r-same (density_of i)) (r-mul (r-same _) (r-div (rounded 100 1) (r-sub r (r-same (height_of i)))))

density-same : {h h' : Float} → Rel false h h' → Rel false (density_at h) (density_at h')
unfolding density_at
density-same {h} {h'} r =
    r-cond (le h (height_of 0)) (le h' (height_of 0)) (r-le r (r-same (height_of 0))) (r-same (density_of 0))
    (r-cond (le (height_of last_row) h) (le (height_of last_row) h') (r-le (r-same (height_of last_row)) r) (r-same (density_of last_row))
    (rw (row_is last_row r) (between-same (row_down_from last_row h) r)))

pub density-is : {h h' : Float} → Rel false h h' → density_at h' ≡ density_at h
density-is {h} r = exact (density-same r) (density-nonzero h)

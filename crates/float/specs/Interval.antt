-- `Within lo hi x`: x is a number from lo to hi, both included; a NaN is in no interval. Definitions only.
use Rattle.std.specs.Prelude.{Bool, ◌&&◌, T, Float}
use Rattle.std.specs.Float.Ieee.{le}

pub record Within (lo hi x : Float) : Type 0 where
  pub at_least : T (le lo x)
  pub at_most : T (le x hi)

-- the same as a test
unfoldable pub inside : Float → Float → Float → Bool
inside lo hi x = le lo x && le x hi

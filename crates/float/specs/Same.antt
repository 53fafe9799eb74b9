-- Numbers compared as results are, 0 and -0 as one and all NaNs as one (01, "Numbers the Rust takes from elsewhere"), and their
-- reflections. Definitions only.
use Rattle.std.specs.Prelude.{◌≡◌, zero, suc, Bool, true, false, Float}
use Rattle.std.specs.Float.{fin, inf, nan}
use Rattle.std.specs.Float.Ieee.{neg}

-- a number without the sign of a zero
unfoldable pub num : Float → Float
num nan = nan
num (inf s) = inf s
num (fin s zero e) = fin false zero e
num (fin s (suc m) e) = fin s (suc m) e

-- x, or -x by flipping its sign bit
abbrev pub flip : Bool → Float → Float
flip true x = neg x
flip false x = x

-- `Rel p x y`: y is the number x (p false) or -x (p true); two zeros are one number, and a NaN is only a NaN
pub record Rel (p : Bool) (x y : Float) : Type 0 where
  pub same : num y ≡ num (flip p x)

-- the same number, and the opposite one
abbrev pub Same : Float → Float → Type 0
Same x y = Rel false x y

abbrev pub Opposite : Float → Float → Type 0
Opposite x y = Rel true x y

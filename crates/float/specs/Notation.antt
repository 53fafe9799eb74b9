-- The notation of all definitions: 32-bit IEEE 754 operations, each rounded once, and constants rounded once (01, "Blocks" and
-- "Numbers the Rust takes from elsewhere"). Definitions only.
use Prim.Native.Nat as Nat
use Rattle.std.specs.Prelude.{ℕ, suc, true, false, cond, pos, negsuc, from_bits, Float}
use Rattle.std.specs.Float.Ieee.{add, div, lt, mul, round, sub}
use Rattle.std.specs.Float.{binary32, fin, inf, nan}

infixl 65 ◌⊕◌
infixl 65 ◌⊖◌
infixl 70 ◌⊗◌
infixl 70 ◌⊘◌
abbrev pub ◌⊕◌ : Float → Float → Float
x ⊕ y = add binary32 x y

abbrev pub ◌⊖◌ : Float → Float → Float
x ⊖ y = sub binary32 x y

abbrev pub ◌⊗◌ : Float → Float → Float
x ⊗ y = mul binary32 x y

abbrev pub ◌⊘◌ : Float → Float → Float
x ⊘ y = div binary32 x y

-- the constant n / d, rounded once
abbrev pub rounded : ℕ → ℕ → Float
rounded n d = round binary32 false n d

-- the constant with these 32 bits
abbrev pub hex : ℕ → Float
hex b = from_bits binary32 b

-- constants that are exact
abbrev pub zero : Float
zero = fin false 0 (pos 0)

abbrev pub one : Float
one = fin false 1 (pos 0)

abbrev pub minus_one : Float
minus_one = fin true 1 (pos 0)

abbrev pub half : Float
half = fin false 1 (negsuc 0)

abbrev pub two : Float
two = fin false 1 (pos 1)

-- the size of a number, |x|: without its sign
unfoldable pub abs : Float → Float
abs nan = nan
abs (inf s) = inf false
abs (fin s Nat.zero e) = zero
abs (fin s (suc m) e) = fin false (suc m) e

-- max(a, 0): +0 unless a > 0
unfoldable pub at_least_zero : Float → Float
at_least_zero a = cond (lt zero a) a zero

-- x brought into lo..hi, as Rust's `clamp`: a NaN stays
unfoldable pub clamp : Float → Float → Float → Float
clamp lo hi x = cond (lt x lo) lo (cond (lt hi x) hi x)

-- What the code's promises name besides the definitions. Nothing here needs believing: `proofs/Exponents`, `proofs/Splits` and
-- `proofs/Quarters` say in terms of the definitions what each of them is.
use Rattle.std.specs.Prelude.{T, Float, negsuc, pos, ℤ, ◌||◌, cond, ◌≡◌, Option, Some, None}
use Rattle.std.specs.Float.Ieee.{eq, le, neg}
use Rattle.std.specs.Int.Signed.{le_z}
use Rattle.float.specs.Interval.{inside}
use Rattle.float.specs.Notation.{◌⊕◌, ◌⊖◌, ◌⊗◌, half, zero, one, rounded, two}
use Rattle.float.specs.Promises.{whole_part}
use Rattle.libm.specs.Exp.{binary_exponent}
use Rattle.libm.specs.Log.{exponent_of, mantissa_of}
use Rattle.libm.specs.Trig.{cos_near, farthest, quarter_turn, rest_of, sin_near}
use Rattle.libm.specs.declared.trig.Quadrant.{Quadrant}
use Rattle.libm.specs.declared.trig.Quadrant.TheVariants.{First, Fourth, Second, Third}
use Rattle.libm.specs.declared.trig.Turned.{Turned}

-- ---- exp: the binary exponent of an x from -87 to 88 is from -126 to 127
pub record Exponent (k : ℤ) : Type 0 where
  pub at_least : T (le_z (negsuc 125) k)
  pub at_most : T (le_z k (pos 127))

pub record ExponentOf (x : Float) (k : ℤ) : Type 0 where
  pub is : k ≡ binary_exponent x
  pub in-range : Exponent k

-- ---- ln: the exponent of a number above 0 is from -149 to 128
pub record Binary (n : ℤ) : Type 0 where
  pub at_least : T (le_z (negsuc 148) n)
  pub at_most : T (le_z n (pos 128))

pub record SplitOf (v m : Float) (n : ℤ) : Type 0 where
  pub is-mantissa : m ≡ mantissa_of v
  pub is-exponent : n ≡ exponent_of v
  pub in-range : Binary n

-- ---- sin and cos: the quarter turns as the code holds them, a float that is a whole number
unfoldable pub whole_quarters : Float → Float
whole_quarters x = whole_part (cond (le zero x) (x ⊗ quarter_turn ⊕ half) (x ⊗ quarter_turn ⊖ half))

-- the quadrant after such a q from -3 to 3: it is 0; 1 or -3; 2 or -2; 3 or -1
unfoldable pub quadrant_after : Float → Quadrant
quadrant_after q =
    cond (eq q zero) First (cond (eq q one || eq q (neg (rounded 3 1))) Second (cond (eq q two || eq q (neg two)) Third Fourth))

-- an x within size 4 by its quadrant and its rest; none beyond, nor for a NaN
unfoldable pub quadrant_and_rest : Float → Option Turned
quadrant_and_rest x =
    cond (inside (neg farthest) farthest x)
    (Some (record { quadrant = quadrant_after (whole_quarters x); rest = rest_of x (whole_quarters x) })) None

-- one of four values, by the quadrant
unfoldable pub by_quarters : Quadrant → Float → Float → Float → Float → Float
by_quarters First i ii iii iv = i
by_quarters Second i ii iii iv = ii
by_quarters Third i ii iii iv = iii
by_quarters Fourth i ii iii iv = iv

unfoldable pub sin_by : Turned → Float
sin_by t =
    by_quarters t.quadrant
    (sin_near t.rest (t.rest ⊗ t.rest))
    (cos_near (t.rest ⊗ t.rest))
    (neg (sin_near t.rest (t.rest ⊗ t.rest)))
    (neg (cos_near (t.rest ⊗ t.rest)))

unfoldable pub cos_by : Turned → Float
cos_by t =
    by_quarters t.quadrant
    (cos_near (t.rest ⊗ t.rest))
    (neg (sin_near t.rest (t.rest ⊗ t.rest)))
    (neg (cos_near (t.rest ⊗ t.rest)))
    (sin_near t.rest (t.rest ⊗ t.rest))

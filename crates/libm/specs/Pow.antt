-- A power with an exponent that need not be whole (02, 4). Definitions only.
use Rattle.std.specs.Prelude.{Float, cond}
use Rattle.std.specs.Float.Ieee.{eq, lt}
use Rattle.std.specs.Float.{nan}
use Rattle.float.specs.Interval.{inside}
use Rattle.float.specs.Notation.{◌⊗◌, zero, one}
use Rattle.libm.specs.Exp.{exp_of}
use Rattle.libm.specs.Log.{ln_of}

-- no power is above 1: it is held there
unfoldable pub at_most_one : Float → Float
at_most_one x = cond (lt one x) one x

-- v to the power e: 0 of 0, none of a v outside 0..1, else the exponential of e times ln v
unfoldable pub pow_of : Float → Float → Float
pow_of v e = cond (eq v zero) zero (cond (inside zero one v) (at_most_one (exp_of (e ⊗ ln_of v))) nan)

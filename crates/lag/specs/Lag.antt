-- First-order lag (01, module 1). Definitions only.
use Rattle.std.specs.Prelude.{Float, cond}
use Rattle.std.specs.Float.Ieee.{ne, neg}
use Rattle.float.specs.Notation.{◌⊕◌, ◌⊖◌, ◌⊗◌, ◌⊘◌, clamp, one, rounded}
use Rattle.libm.specs.Exp.{exp_of}

-- 1 - e^(-h / tau)
unfoldable pub factor_of : Float → Float → Float
factor_of h tau = one ⊖ exp_of (neg h ⊘ tau)

-- value moved toward target by alpha of the gap
unfoldable pub approach_of : Float → Float → Float → Float
approach_of value target alpha = value ⊕ (target ⊖ value) ⊗ alpha

-- a command brought into low..high; a NaN goes to neutral
unfoldable pub saturated : Float → Float → Float → Float → Float
saturated low high neutral command = cond (ne command command) neutral (clamp low high command)

unfoldable pub approach_saturated : Float → Float → Float → Float → Float → Float → Float
approach_saturated value command low high neutral alpha = approach_of value (saturated low high neutral command) alpha

-- where an accepted tick's step lies: 1/1024..0.02
abbrev pub step_least : Float
step_least = rounded 1 1024

abbrev pub step_most : Float
step_most = rounded 2 100

-- The falloff of thrust with forward airspeed (01, module 4), and the aspect ratio. Definitions only.
use Rattle.std.specs.Prelude.{Float, cond}
use Rattle.std.specs.Float.{binary32}
use Rattle.std.specs.Float.Ieee.{eq}
use Rattle.float.specs.Notation.{◌⊖◌, ◌⊗◌, ◌⊘◌, at_least_zero, zero, one}
use Rattle.libm.specs.Sqrt.{sqrt_of}
use Rattle.fixed_wing.specs.declared.ThrustFalloff.{ThrustFalloff}
use Rattle.fixed_wing.specs.declared.ThrustFalloff.TheVariants.{Linear, PitchSpeed}

unfoldable pub aspect_ratio : Float → Float → Float
aspect_ratio span area = span ⊗ span ⊘ area

-- a fixed-pitch prop: 1 - u / (full · √share), where u is the airspeed, not below 0; 1 in still air
unfoldable pub pitch_speed_share : Float → Float → Float → Float
pitch_speed_share full share u = cond (eq u zero) one (at_least_zero (one ⊖ u ⊘ (full ⊗ sqrt_of binary32 (at_least_zero share))))

-- a power-limited prop: (max - n · u) / max, not below 0
unfoldable pub linear_share : Float → Float → Float → Float
linear_share n most u = at_least_zero (most ⊖ n ⊗ u) ⊘ most

-- by the kind of falloff; no airspeed is counted below 0
unfoldable pub falloff_share : ThrustFalloff → Float → Float → Float → Float
falloff_share (Linear n) most share u = linear_share n most (at_least_zero u)
falloff_share (PitchSpeed full) most share u = pitch_speed_share full share (at_least_zero u)

-- The share of thrust in a reflected flight: the same, as data, since it takes max(speed, 0), which has no sign of zero. Assumes nothing.
use lib.Ieee.{Float}
use mathlib.Core.Bool.{false}
use mathlib.Core.Path.{◌≡◌}
use Rattle.float.proofs.Mirror.{at-least-zero-is}
use Rattle.float.specs.Same.{Rel}
use Rattle.fixed_wing.specs.Falloff.{falloff_share}
use Rattle.fixed_wing.specs.declared.ThrustFalloff.{ThrustFalloff}
use Rattle.fixed_wing.specs.declared.ThrustFalloff.TheVariants.{Linear, PitchSpeed}

pub falloff-is : {u u' : Float} (f : ThrustFalloff) (most share : Float) → Rel false u u' → falloff_share f most share u' ≡ falloff_share f most share u
unfolding falloff_share
falloff-is (Linear n) most share h = rw (at-least-zero-is h)
falloff-is (PitchSpeed full) most share h = rw (at-least-zero-is h)

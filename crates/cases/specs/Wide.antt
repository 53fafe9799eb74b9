-- The P cases of 01, "Flown by hand", that leave a number open: each said of every number it may be. Definitions only.
use Rattle.std.specs.Prelude.{Float, pos, Bool, false, ◌≡◌}
use Rattle.std.specs.Float.{fin, inf}
use Rattle.std.specs.Float.Ieee.{neg}
use Rattle.aero.specs.Coefficients.{stall_blend}
use Rattle.fixed_wing.specs.declared.AeroCoefficients.{AeroCoefficients}
use Rattle.float.specs.Interval.{Within}
use Rattle.float.specs.Notation.{zero, one, rounded}
use Rattle.float.specs.Same.{Same}
use Rattle.lag.specs.Lag.{approach_saturated}

-- +infinity, running 1: 1, for every factor within 0 and 1
abbrev pub FullThrottleStays : Type 0
FullThrottleStays = (factor : Float) → Within zero one factor → Same one (approach_saturated one (inf false) zero one zero factor)

-- sharpness 0, of either sign: blend 0.75, for every stall angle of an accepted airframe and every angle of attack within ±4 rad,
-- beyond which sin and cos are NaN
abbrev pub BluntBlend : Type 0
BluntBlend = (c : AeroCoefficients) (alpha : Float) (s : Bool) → c.stall_sharpness ≡ fin s 0 (pos 0)
    → Within zero (rounded 16 10) c.alpha_stall_rad → Within (neg (rounded 4 1)) (rounded 4 1) alpha
    → stall_blend c alpha ≡ rounded 75 100

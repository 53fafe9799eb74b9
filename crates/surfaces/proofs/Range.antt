-- Where the servos' running values lie after moving, by the lag's rounding bound: in -1..1. Assumes nothing.
use Prim.Native.Nat.{ℕ}
use lib.Ieee.{Float}
use mathlib.Core.List.{List}
use Rattle.float.specs.Interval.{Within}
use Rattle.float.specs.Notation.{minus_one, zero, one}
use Rattle.lag.proofs.Range.{surface-in}
use Rattle.mixers.specs.Slots.{at}
use Rattle.surfaces.specs.Surface.{move_at}
use Rattle.surfaces.specs.declared.Surfaces.{Surfaces}

pub move_in : (s : Surfaces) (commands : List Float) (factor : Float) (k : ℕ) → Within minus_one one (at s.running k) → Within zero one factor
    → Within minus_one one (move_at s commands factor k)
unfolding move_at
move_in s commands factor k w f = surface-in (at s.running k) (at commands k) factor w f

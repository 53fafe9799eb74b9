-- The parts of an airframe: where none is refused with its rows' factors among them, none is without. Assumes nothing.
use Prim.Native.Nat.{ℕ}
use mathlib.Core.Bool.{Bool, false, true}
use mathlib.Core.Path.{◌≡◌}
use native.Mathlib.Omega.{arith}
use lib.Ieee.{Float}
use mathlib.Core.List.{List}
use Rattle.std.specs.Option.{option_or}
use Rattle.fixed_wing.specs.declared.ThrustFalloff.{ThrustFalloff}
use Rattle.vector.specs.declared.Vec3.{Vec3}
use Rattle.ordered.proofs.Ordered.{or-assoc, or-last, or-none, or-option}
use Rattle.ordered.specs.Ordered.{unless_zero}
use Rattle.airframe.specs.Acceptance.{first_refused, lowest_place, refused_place, row_factors_outside}
use Rattle.airframe.specs.declared.Airframe.{Airframe}

-- the lift rotors' torques come last
pub last-or : (xs : List Float) (f : ThrustFalloff) (w r : Bool) (ts ws : List Vec3) (l : Bool) (n : ℕ)
    → option_or (unless_zero (first_refused xs f w r ts ws l 0)) (unless_zero n) ≡ unless_zero (first_refused xs f w r ts ws l n)
unfolding first_refused
last-or xs f w r ts ws l n = simp (or-option, or-assoc, or-last)

pub rows_apart : (a : Airframe) (rows : Bool) → lowest_place rows a ≡ 0 → refused_place a ≡ 0
unfolding refused_place lowest_place first_refused row_factors_outside
rows_apart a true e = e
rows_apart a false e = absurd (none (or-none _ _ (or-none _ _ (or-none _ _ e).1).1).0)
  where
    none : ◌≡◌ {A = ℕ} 49 0 → ⊥
    none e = omega arith

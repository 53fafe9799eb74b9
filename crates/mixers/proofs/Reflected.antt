-- The reflection by flipping sign bits is one, at each slot; past the end of the list too, where the language's logic has NaNs. Assumes nothing.
use Prim.Native.Nat.{suc, zero, ℕ}
use lib.Ieee.{nan, neg}
use mathlib.Core.Bool.{Bool, false, true}
use mathlib.Core.List.{List, [], ◌∷◌, map}
use mathlib.Core.Path.{refl}
use Rattle.float.specs.Same.{Rel}
use Rattle.vector.proofs.Mirror.{reflect-axis}
use Rattle.vector.specs.Reflection.{VecRel, reflect_axis}
use Rattle.vector.specs.declared.Vec3.{Vec3}
use Rattle.mixers.specs.Reflection.{AxesRel, reflect_axes}
use Rattle.mixers.specs.Slots.{vec_at}

r-nan : (p : Bool) → Rel p nan nan
unfolding neg
r-nan true = record { same = refl }
r-nan false = record { same = refl }

reflect-at : (vs : List Vec3) (k : ℕ) → VecRel true (vec_at vs k) (vec_at (map reflect_axis vs) k)
reflect-at [] k = record { x = r-nan true; y = r-nan false; z = r-nan true }
reflect-at (v ∷ vs) zero = reflect-axis v
reflect-at (v ∷ vs) (suc k) = reflect-at vs k

pub reflect-axes : (vs : List Vec3) → AxesRel vs (reflect_axes vs)
unfolding reflect_axes
reflect-axes = reflect-at

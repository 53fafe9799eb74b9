-- The surfaces in a reflected flight: the same positions as data, and the reflected deflections (aileron and rudder negated). Assumes nothing.
use Prim.Native.Nat.{ℕ}
use lib.Ieee.{Float}
use mathlib.Core.Bool.{true}
use mathlib.Core.List.{List}
use mathlib.Core.Path.{◌≡◌, ap}
use Rattle.float.proofs.Mirror.{r-is}
use Rattle.mixers.proofs.Sums.{vec-sum-mirror}
use Rattle.mixers.specs.Slots.{at, vec_at}
use Rattle.vector.proofs.Mirror.{component-mul-mirror, scale-mirror}
use Rattle.vector.specs.Reflection.{VecRel}
use Rattle.vector.specs.declared.Vec3.{Vec3}
use Rattle.surfaces.specs.Surface.{deflection_at, deflection_rad, move_at, move_to}
use Rattle.surfaces.specs.declared.Surfaces.{Surfaces}

pub record SurfacesRel (s s' : Surfaces) : Type 0 where
  pub weight : (k : ℕ) → VecRel true (vec_at s.weights k) (vec_at s'.weights k)
  pub running : s'.running ≡ s.running

pub move-mirror : {s s' : Surfaces} (commands : List Float) (factor : Float) → SurfacesRel s s'
    → SurfacesRel (move_to s commands factor) (move_to s' commands factor)
unfolding move_to move_at
move-mirror commands factor h = record { weight = h.weight; running = rw h.running }

pub deflection-mirror : {s s' : Surfaces} (most : Vec3) → SurfacesRel s s' → VecRel true (deflection_rad s most) (deflection_rad s' most)
unfolding deflection_rad deflection_at
deflection-mirror most h =
    component-mul-mirror most (vec-sum-mirror true 8 (λ k. scale-mirror (h.weight k) (r-is (ap (λ (xs : List Float). at xs k) h.running))))

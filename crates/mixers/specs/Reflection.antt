-- The 8 slots' torques or weights seen in a mirror of left and right (01, "Reflection negates": their roll and yaw), and what it
-- is for one list to be the other's reflection as numbers. Definitions only.
use Rattle.std.specs.Prelude.{ℕ, true, List, map}
use Rattle.vector.specs.Reflection.{VecRel, reflect_axis}
use Rattle.vector.specs.declared.Vec3.{Vec3}
use Rattle.mixers.specs.Slots.{vec_at}

unfoldable pub reflect_axes : List Vec3 → List Vec3
reflect_axes vs = map reflect_axis vs

abbrev pub AxesRel : List Vec3 → List Vec3 → Type 0
AxesRel vs vs' = (k : ℕ) → VecRel true (vec_at vs k) (vec_at vs' k)

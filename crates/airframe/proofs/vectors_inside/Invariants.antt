-- `airframe::vectors_inside` meets its contract. Assumes nothing.
use Rattle.airframe.specs.Acceptance.{slot_vec_inside}
use Rattle.ordered.specs.Ordered.{all_pass}
use mathlib.Core.Path.{◌≡◌}
use Rattle.airframe.proofs.vectors_inside.Given as goal

abbrev pub invariant-loop-vector : goal.invariant-loop-vector
invariant-loop-vector l = l.ok ≡ all_pass (slot_vec_inside l.limit l.fn.vectors) l.vector-index

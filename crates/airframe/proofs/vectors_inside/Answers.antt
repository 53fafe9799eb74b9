-- `airframe::vectors_inside` meets its contract. Assumes nothing.
use Rattle.airframe.specs.Acceptance.{slot_vec_inside}
use native.Mathlib.Nat.{le_antisymm}
use Rattle.mixers.proofs.Flags.{and-cond}
use Rattle.ordered.specs.Ordered.{all_pass}
use Rattle.ordered.proofs.Ordered.{pass-more}
use mathlib.Core.Bool.{cond, false}
use mathlib.Core.Path.{◌∙◌, ap, refl}
use Rattle.airframe.proofs.vectors_inside.Goals as goal

pub loop-vector-init : goal.loop-vector-init
unfolding all_pass
loop-vector-init c = refl

pub loop-vector-preserved : goal.loop-vector-preserved
unfolding slot_vec_inside
loop-vector-preserved c =
    let s = c.loop-vector in
    pass-more _ s.vector-index s.ok _ s.invariant (and-cond s.ok c.is_inside-ok.result ∙ ap (λ t. cond t s.ok false) c.is_inside-ok.ensures)

pub returns : goal.returns
returns c = c.loop-vector.invariant ∙ ap (all_pass _) (le_antisymm c.loop-vector.auto.vector-index-end c.loop-vector-test.false)

-- `flight::slots_inside` meets its contract. Assumes nothing.
use Rattle.flight.specs.Envelope.{slot_inside}
use native.Mathlib.Nat.{le_antisymm}
use Rattle.mixers.proofs.Flags.{and-cond}
use Rattle.ordered.specs.Ordered.{all_pass}
use Rattle.ordered.proofs.Ordered.{pass-more}
use mathlib.Core.Bool.{cond, false}
use mathlib.Core.Path.{◌∙◌, ap, refl}
use Rattle.flight.proofs.slots_inside.Goals as goal

pub loop-value-init : goal.loop-value-init
unfolding all_pass
loop-value-init c = refl

pub loop-value-preserved : goal.loop-value-preserved
unfolding slot_inside
loop-value-preserved c =
    let s = c.loop-value in
    pass-more _ s.value-index s.ok _ s.invariant (and-cond s.ok c.inside-ok.result ∙ ap (λ t. cond t s.ok false) c.inside-ok.ensures)

pub returns : goal.returns
returns c = c.loop-value.invariant ∙ ap (all_pass _) (le_antisymm c.loop-value.auto.value-index-end c.loop-value-test.false)

-- `flight::slots_outside` meets its contract. Assumes nothing.
use Rattle.flight.specs.Envelope.{slot_inside, slots_outside}
use Rattle.ordered.proofs.Ordered.{fail-end, fail-here, fail-next, here-some, pass-none, zero-none}
use mathlib.Core.Path.{◌∙◌, sym}
use Rattle.flight.proofs.slots_outside.Goals as goal

pub returns-then-slots_inside-clause-value : goal.returns-then-slots_inside-clause-value
unfolding slots_outside
returns-then-slots_inside-clause-value c = sym (zero-none _ (pass-none _ 8 (sym c.slots_inside.ensures ∙ c.if-slots_inside.true)))

pub returns-then-not-inside-clause-value : goal.returns-then-not-inside-clause-value
unfolding slots_outside slot_inside
returns-then-not-inside-clause-value c =
    sym (here-some _ c.loop-i.i (c.loop-i.invariant ∙ fail-here _ c.loop-i.i 8 c.loop-i-test.true (sym c.inside.ensures ∙ c.if-not-inside.true)))

pub loop-i-preserved : goal.loop-i-preserved
unfolding slot_inside
loop-i-preserved c = c.loop-i.invariant ∙ fail-next _ c.loop-i.i 8 c.loop-i-test.true (sym c.inside.ensures ∙ c.if-not-inside.false)

pub returns-clause-value : goal.returns-clause-value
unfolding slots_outside
returns-clause-value c = sym (zero-none _ (c.loop-i.invariant ∙ fail-end _ c.loop-i.i 8 c.loop-i-test.false))

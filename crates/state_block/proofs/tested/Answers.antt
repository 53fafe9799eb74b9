-- `state_block::tested` meets its contract. Assumes nothing.
use mathlib.Core.Path.{◌∙◌, ap, sym}
use borrow.Author.Tests.{eq-eqb, ne_eqb}
use Rattle.std.specs.Prelude.{is_some}
use Rattle.ordered.proofs.Ordered.{is-some-not-zero, not-some-zero}
use Rattle.state_block.specs.Layout.{accepted_state, tested_state}
use Rattle.state_block.proofs.tested.Goals as goal

pub returns-then-is_some : goal.returns-then-is_some
unfolding tested_state
returns-then-is_some c =
    let outside = sym (c.is_some.ensures ∙ ap is_some c.outside.ensures) in
    simp (c.refused.ensures, ne_eqb _ _ (is-some-not-zero _ (outside ∙ c.if-is_some.true)))

pub returns : goal.returns
unfolding tested_state accepted_state
returns c =
    let outside = sym (c.is_some.ensures ∙ ap is_some c.outside.ensures) in
    simp (eq-eqb _ _ (not-some-zero _ (outside ∙ c.if-is_some.false)))

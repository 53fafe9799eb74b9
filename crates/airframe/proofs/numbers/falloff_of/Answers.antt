-- `airframe::numbers::falloff_of` meets its contract. Assumes nothing.
use borrow.Author.Tests.{ne_eqb}
use Rattle.airframe.specs.FromNumbers.{falloff_of}
use Rattle.airframe.proofs.numbers.falloff_of.Goals as goal

pub returns-then-kind-eq0 : goal.returns-then-kind-eq0
unfolding falloff_of
returns-then-kind-eq0 c = simp c.if-kind-eq0.true

pub returns : goal.returns
unfolding falloff_of
returns c = simp (ne_eqb _ _ c.if-kind-eq0.false)

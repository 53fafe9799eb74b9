-- `airframe::first_outside` meets its contract. The invariant: the search from the start is the search from here. Assumes nothing.
use Prim.Native.Nat.{◌+◌, ◌<◌, ◌≤◌}
use borrow.Author.Rules.{rules}
use lib.Ieee.{nan}
use mathlib.Core.Path.{◌∙◌, ap, sym}
use Rattle.float.specs.Interval.{inside}
use Rattle.ordered.proofs.Ordered.{fail-end, fail-here, fail-next, here-some, pass-none, zero-none}
use Rattle.airframe.proofs.Part.{part-at}
use Rattle.airframe.specs.Acceptance.{inside_from, limits_at, number_inside}
use Rattle.airframe.proofs.first_outside.Goals as goal

pub returns-then-numbers_inside-clause-value : goal.returns-then-numbers_inside-clause-value
returns-then-numbers_inside-clause-value c = sym (zero-none _ (pass-none _ _ (sym c.numbers_inside.ensures ∙ c.if-numbers_inside.true)))

pub returns-then-not-inside-clause-value : goal.returns-then-not-inside-clause-value
unfolding inside_from number_inside
returns-then-not-inside-clause-value c =
    let a = c.args in
    let i = c.loop-i.i in
    let within : i < a.count = search rules in
    let limit = limits_at a.limits (a.first + i) in
    let tested = c.inside.ensures ∙ ap (inside limit.0 limit.1) (part-at nan a.numbers.now a.first a.count i within) in
    sym (here-some _ i (c.loop-i.invariant ∙ fail-here _ i _ within (sym tested ∙ c.if-not-inside.true)))

pub loop-i-preserved : goal.loop-i-preserved
unfolding inside_from number_inside
loop-i-preserved c =
    let a = c.args in
    let i = c.loop-i.i in
    let within : i < a.count = search rules in
    let limit = limits_at a.limits (a.first + i) in
    let tested = c.inside.ensures ∙ ap (inside limit.0 limit.1) (part-at nan a.numbers.now a.first a.count i within) in
    c.loop-i.invariant ∙ fail-next _ i _ within (sym tested ∙ c.if-not-inside.false)

pub returns-clause-value : goal.returns-clause-value
returns-clause-value c =
    let done : c.args.count ≤ c.loop-i.i = search rules in
    sym (zero-none _ (c.loop-i.invariant ∙ fail-end _ c.loop-i.i _ done))

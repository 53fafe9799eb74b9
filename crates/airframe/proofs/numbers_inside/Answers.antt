-- `airframe::numbers_inside` meets its contract. The invariant: the numbers passed are all inside, or not all. Assumes nothing.
use Prim.Native.Nat.{◌+◌, ◌<◌}
use borrow.Author.Rules.{rules}
use lib.Ieee.{nan}
use mathlib.Core.Bool.{cond, false}
use mathlib.Core.Path.{◌∙◌, ap, refl}
use Rattle.float.specs.Interval.{inside}
use Rattle.mixers.proofs.Flags.{and-cond}
use Rattle.ordered.proofs.Ordered.{pass-more}
use Rattle.ordered.specs.Ordered.{all_pass}
use Rattle.airframe.proofs.Part.{part-at}
use Rattle.airframe.specs.Acceptance.{inside_from, limits_at, number_inside}
use Rattle.airframe.proofs.numbers_inside.Goals as goal

pub loop-i-init : goal.loop-i-init
unfolding all_pass
loop-i-init c = refl

pub loop-i-preserved : goal.loop-i-preserved
unfolding inside_from number_inside
loop-i-preserved c =
    let a = c.args in
    let s = c.loop-i in
    let within : s.i < a.count = search rules in
    let limit = limits_at a.limits (a.first + s.i) in
    pass-more _ s.i s.ok _ s.invariant (
    and-cond s.ok c.inside-ok.result
    ∙ ap (λ t. cond t s.ok false)
    (c.inside-ok.ensures ∙ ap (inside limit.0 limit.1) (part-at nan a.numbers.now a.first a.count s.i within))
    )

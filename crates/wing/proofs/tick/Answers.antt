-- `wing::tick` meets its contract. Assumes nothing.
use Rattle.std.specs.Prelude.{Err}
use mathlib.Core.Path.{◌∙◌, ap}
use Rattle.answers.specs.declared.Refusal.{Refusal}
use Rattle.ordered.proofs.Ordered.{some-eqb}
use Rattle.std.proofs.lemmas.Result.{MatchResult-at_err}
use Rattle.wing.specs.Promises.{RefusedBy}
use Rattle.wing.specs.Tick.{refused_of, tick_of, tick_with}
use Rattle.wing.proofs.tick.Goals as goal

pub returns-in-Err : goal.returns-in-Err
unfolding tick_of tick_with
returns-in-Err c =
    let q : RefusedBy c.args.a c.in-Err.refusal = MatchResult-at_err _ _ _ c.in-Err.is c.of.ensures.refused in
    rw (some-eqb _ q.there) (c.refused.ensures ∙ ap (λ (x : Refusal). refused_of (Err x) c.args.f) q.is)

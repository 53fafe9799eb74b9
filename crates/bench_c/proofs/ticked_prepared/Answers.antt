-- `bench_c::ticked_prepared` meets its contract: the refused place that is read off the numbers is the airframe's own. Assumes nothing.
use Rattle.std.specs.Prelude.{Err}
use Prim.Native.Nat.{ℕ}
use Rattle.airframe.specs.Acceptance.{refused_place}
use Rattle.answers.specs.declared.Refusal.TheVariants.{NumberOutOfRange}
use Rattle.arrays.specs.Airframe.{airframe_in}
use Rattle.ordered.proofs.Ordered.{none-zero, some-eqb, some-number}
use Rattle.wing.specs.Tick.{refused_of, tick_of, tick_with}
use mathlib.Core.Path.{◌∙◌, ap, sym}
use Rattle.bench_c.proofs.ticked_prepared.Goals as goal

pub invariant_of-tick_accepted : goal.invariant_of-tick_accepted
invariant_of-tick_accepted c =
    record { is_accepted = ap refused_place c.airframe_in-a.ensures ∙ none-zero _ (sym c.refused_place.ensures ∙ c.in-None.is) }

pub returns-in-Some : goal.returns-in-Some
unfolding tick_of tick_with
returns-in-Some c =
    let q = some-number (refused_place (airframe_in c.args.airframe.now)) _ (sym c.refused_place.ensures ∙ c.in-Some.is) in
    rw (some-eqb _ q.1) (c.refused.ensures ∙ ap (λ (p : ℕ). refused_of (Err (NumberOutOfRange p)) c.args.f) (sym q.0))

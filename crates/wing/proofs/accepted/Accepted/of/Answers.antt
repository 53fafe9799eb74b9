-- `wing::accepted::Accepted::of` meets its contract. Assumes nothing.
use Prim.Native.Nat.{ℕ}
use mathlib.Core.Path.{◌∙◌, ap, sym}
use Rattle.airframe.specs.Acceptance.{refused_place}
use Rattle.answers.specs.declared.Refusal.TheVariants.{NumberOutOfRange}
use Rattle.ordered.proofs.Ordered.{none-zero, some-number}
use Rattle.wing.proofs.accepted.Accepted.of.Goals as goal

pub invariant_of-result : goal.invariant_of-result
invariant_of-result c = record { is_accepted = none-zero _ (sym c.refused_place.ensures ∙ c.in-None.is) }

pub returns-in-Some-clause-refused : goal.returns-in-Some-clause-refused
returns-in-Some-clause-refused c =
    let q = some-number (refused_place c.args.airframe) _ (sym c.refused_place.ensures ∙ c.in-Some.is) in
    record { is = ap (λ (p : ℕ). NumberOutOfRange p) (sym q.0); there = q.1 }

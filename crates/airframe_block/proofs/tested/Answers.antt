-- `airframe_block::tested` meets its contract. Assumes nothing.
use Prim.Native.Nat.{ℕ}
use lib.Dec.{eqb}
use mathlib.Core.Bool.{Bool}
use mathlib.Core.Path.{◌∙◌, ap, sym}
use Rattle.airframe.specs.Acceptance.{lowest_place}
use Rattle.answers.specs.declared.Refusal.TheVariants.{NumberOutOfRange}
use Rattle.ordered.proofs.Ordered.{none-eqb, none-zero, some-number}
use Rattle.ordered.specs.Ordered.{unless_zero}
use Rattle.airframe_block.specs.Block.{accepted_airframe, bad_row, refused_airframe, tested_block}
use Rattle.airframe_block.proofs.Order.{place-accepted, place-refused}
use Rattle.airframe_block.proofs.tested.Goals as goal

pub returns-in-Some : goal.returns-in-Some
unfolding tested_block
returns-in-Some c =
    let a = c.args.airframe in
    let n = lowest_place (eqb (bad_row c.args.rows) 0) a in
    let e = c.lowest_place.ensures ∙ ap (λ (t : Bool). unless_zero (lowest_place t a)) (none-eqb _ _ _ c.bad_row.ensures c.is_none.ensures) in
    let q = some-number n _ (sym e ∙ c.in-Some.is) in
    c.refused.ensures ∙ ap (λ (k : ℕ). refused_airframe (NumberOutOfRange k)) (sym q.0) ∙ place-refused a n q.1

pub returns-in-None : goal.returns-in-None
unfolding tested_block accepted_airframe
returns-in-None c =
    let a = c.args.airframe in
    let n = lowest_place (eqb (bad_row c.args.rows) 0) a in
    let e = c.lowest_place.ensures ∙ ap (λ (t : Bool). unless_zero (lowest_place t a)) (none-eqb _ _ _ c.bad_row.ensures c.is_none.ensures) in
    place-accepted a n (none-zero n (sym e ∙ c.in-None.is))

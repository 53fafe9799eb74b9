-- `lent_rows::fill_from_slice` meets its contract. Assumes nothing.
use Rattle.std.proofs.Common.{◌∙◌, add-one, refl, sym}
use Rattle.lent_rows.proofs.Walk.{mix-end, mix-step}
use Rattle.lent_rows.proofs.fill_from_slice.Goals as goal

pub loop-row-init : goal.loop-row-init
loop-row-init c = refl

pub loop-row-preserved : goal.loop-row-preserved
loop-row-preserved c =
    rw (c.put-m.ensures, add-one c.loop-row.row-index) (c.loop-row.invariant ∙ mix-step c.args.rows.now _ _ c.loop-row-test.true)

pub returns : goal.returns
returns c = sym (c.loop-row.invariant ∙ mix-end _ _ _ c.loop-row-test.false)

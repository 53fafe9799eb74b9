-- `surfaces::factors_of` meets its contract: after i iterations the first i rows are put. Assumes nothing.
use borrow.Author.Rules.{rules}
use mathlib.Core.Path.{◌∙◌, ap}
use native.Mathlib.Nat.{le_antisymm}
use Rattle.mixers.proofs.Putting.{put-more, put-taken}
use Rattle.mixers.specs.Rows.{put_to}
use Rattle.surfaces.specs.Surface.{factors_of, no_factors, put_servo_row}
use Rattle.surfaces.specs.declared.Factors.{Factors}
use Rattle.surfaces.proofs.factors_of.Goals as goal

pub loop-row-init : goal.loop-row-init
unfolding put_to
loop-row-init c = rw c.zeros.ensures

pub loop-row-preserved : goal.loop-row-preserved
loop-row-preserved c = put-more _ _ _ c.loop-row.row-index _ _ c.loop-row.invariant c.put-factors.ensures

pub returns : goal.returns
unfolding factors_of
returns c =
    ap (λ (f : Factors). f.at) (
    c.loop-row.invariant
    ∙ ap (put_to put_servo_row no_factors _) (le_antisymm c.loop-row.auto.row-index-end c.loop-row-test.false)
    ∙ put-taken put_servo_row no_factors c.args.rows.rows c.live.result (search rules)
    ∙ ap (put_to put_servo_row no_factors c.args.rows.rows) c.live.ensures.value
    )

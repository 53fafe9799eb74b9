-- `motors::MotorGroup::new` meets its contract. Assumes nothing.
use borrow.Author.Rules.{rules}
use mathlib.Core.Path.{◌∙◌, ap, refl}
use native.Mathlib.Nat.{le_antisymm}
use Rattle.mixers.proofs.Putting.{put-more, put-taken}
use Rattle.mixers.specs.Rows.{live_of, put_to}
use Rattle.motors.specs.Motor.{group_of, put_motor_row}
use Rattle.motors.specs.declared.MotorGroup.{MotorGroup}
use Rattle.motors.proofs.MotorGroup.new.Goals as goal

pub loop-row-init : goal.loop-row-init
unfolding put_to
loop-row-init c = refl

pub loop-row-preserved : goal.loop-row-preserved
loop-row-preserved c = put-more _ _ _ c.loop-row.row-index _ _ c.loop-row.invariant c.put-group.ensures

pub returns : goal.returns
unfolding group_of
returns c =
    let rows = c.args.rows in
    let start = c.empty-group.result in
    c.loop-row.invariant
    ∙ ap (put_to put_motor_row start _) (le_antisymm c.loop-row.auto.row-index-end c.loop-row-test.false)
    ∙ put-taken put_motor_row start rows.rows c.live.result (search rules)
    ∙ ap (put_to put_motor_row start rows.rows) c.live.ensures.value
    ∙ ap (λ (g : MotorGroup). put_to put_motor_row g rows.rows (live_of rows)) c.empty-group.ensures

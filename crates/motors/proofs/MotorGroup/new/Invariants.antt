-- `motors::MotorGroup::new` meets its contract. Assumes nothing.
use mathlib.Core.Path.{◌≡◌}
use Rattle.mixers.specs.Rows.{put_to}
use Rattle.motors.specs.Motor.{put_motor_row}
use Rattle.motors.proofs.MotorGroup.new.Given as goal

abbrev pub invariant-loop-row : goal.invariant-loop-row
invariant-loop-row l = l.group ≡ put_to put_motor_row l.initial.group l.row-items l.row-index

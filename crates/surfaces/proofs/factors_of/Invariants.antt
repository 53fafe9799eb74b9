-- `surfaces::factors_of` meets its contract: after i iterations the first i rows are put. Assumes nothing.
use mathlib.Core.Path.{◌≡◌}
use Rattle.mixers.specs.Rows.{put_to}
use Rattle.surfaces.specs.Surface.{no_factors, put_servo_row}
use Rattle.surfaces.proofs.factors_of.Given as goal

abbrev pub invariant-loop-row : goal.invariant-loop-row
invariant-loop-row l = l.factors ≡ put_to put_servo_row no_factors l.row-items l.row-index

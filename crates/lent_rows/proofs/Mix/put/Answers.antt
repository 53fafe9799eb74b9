-- `lent_rows::Mix::put` meets its contract. Assumes nothing.
use Rattle.lent_rows.specs.Mixing.{put_row}
use Rattle.lent_rows.proofs.Mix.put.Goals as goal

pub returns : goal.returns
unfolding put_row
returns c = simp (c.put-motors.ensures, c.put_lift-lift.ensures, c.put-factors.ensures)

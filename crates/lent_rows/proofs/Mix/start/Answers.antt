-- `lent_rows::Mix::start` meets its contract. Assumes nothing.
use Rattle.lent_rows.specs.Mixing.{start_of}
use Rattle.lent_rows.proofs.Mix.start.Goals as goal

pub returns : goal.returns
unfolding start_of
returns c = simp (c.empty-motors.ensures, c.empty-lift.ensures, c.zeros.ensures)

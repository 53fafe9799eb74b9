-- `bench_c::ticked_by` meets its contract. Assumes nothing.
use Rattle.answers.proofs.Numbers.{refused-not-done}
use Rattle.bench_c.specs.Library.{ticked_by}
use Rattle.bench_c.proofs.ticked_by.Goals as goal

pub returns-in-Ok : goal.returns-in-Ok
unfolding ticked_by
returns-in-Ok c = simp (c.in-Ok.is, c.tick_by_reference.ensures)

pub returns-in-Err : goal.returns-in-Err
unfolding ticked_by
returns-in-Err c = simp (c.in-Err.is, c.refused.ensures, refused-not-done c.in-Err.field-0)

-- `lines::opening::open` meets its contract: it goes on behind an accepted airframe, and ends with a refused one. Assumes nothing.
use Rattle.std.proofs.Common.{Ok, Err}
use Rattle.std.proofs.lemmas.Result.{err_from_is_err_and}
use Rattle.lines.proofs.Openings.{goes_on}
use Rattle.lines.proofs.opening.open.Goals as goal

pub returns-in_err-flight : goal.returns-in_err-flight
returns-in_err-flight g c =
    let r = c.from_residual-in_err-flight in
    let p = err_from_is_err_and r.result r.ensures.1 in
    rw (p.1, p.2) (goes_on c.in_ok-airframe.airframe (Err c.in_err-flight.field-0.0) c.in_ok-airframe.ensures c.in_err-flight.ensures)

pub returns : goal.returns
returns g c = goes_on c.in_ok-airframe.airframe (Ok c.in_ok-flight.flight) c.in_ok-airframe.ensures c.in_ok-flight.ensures

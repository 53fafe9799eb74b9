-- `flight::Flight::reflected` meets its contract. Assumes nothing.
use Rattle.flight.specs.Reflection.{reflect_flight}
use Rattle.flight.proofs.Flight.reflected.Goals as goal

pub returns : goal.returns
unfolding reflect_flight
returns c = simp (c.of.ensures, c.reflected.ensures, c.body-body.ensures)

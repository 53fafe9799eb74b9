-- `flight::Tick::reflected` meets its contract. Assumes nothing.
use Rattle.flight.specs.Reflection.{reflect_tick}
use Rattle.flight.proofs.Tick.reflected.Goals as goal

pub returns : goal.returns
unfolding reflect_tick
returns c = simp c.reflected.ensures

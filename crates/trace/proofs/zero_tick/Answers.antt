-- `trace::zero_tick` meets its contract. Assumes nothing.
use lib.Ieee.{of_bits}
use Rattle.trace.specs.Tick.{zero_tick}
use Rattle.trace.proofs.zero_tick.Goals as goal

pub returns : goal.returns
unfolding zero_tick of_bits
returns c = simp c.zeros-wind_ned_mps.ensures

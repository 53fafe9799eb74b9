-- `trace::read_tick` meets its contract. Assumes nothing.
use Rattle.block_parts.specs.Parts.{float_at}
use Rattle.trace.specs.Tick.{tick_from}
use Rattle.trace.proofs.read_tick.Goals as goal

pub returns : goal.returns
unfolding tick_from float_at
returns c = simp (c.read_floats-servos.ensures, c.read_floats-motors.ensures, c.read_vec-wind_ned_mps.ensures, c.read-step_s.ensures)

-- `state_block::read_flight` meets its contract. Assumes nothing.
use Rattle.state_block.specs.Layout.{flight_with}
use Rattle.state_block.proofs.read_flight.Goals as goal

pub returns : goal.returns
unfolding flight_with
returns c =
    let b = c in
    simp (
      c.of.ensures,
      b.read_floats-servos.ensures,
      b.read_floats-motors.ensures,
      b.read_vec-angular_velocity_radps.ensures,
      b.read_attitude-attitude.ensures,
      b.read_vec-velocity_ned_mps.ensures,
      b.read_vec-position_ned_m.ensures,
    )

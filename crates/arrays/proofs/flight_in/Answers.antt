-- `arrays::flight_in` meets its contract. Assumes nothing.
use Rattle.arrays.specs.Flight.{flight_in}
use Rattle.arrays.proofs.flight_in.Goals as goal

pub returns : goal.returns
unfolding flight_in
returns c =
    let s = c in
    simp (
      c.of.ensures,
      c.slots_in-lift_motors.ensures,
      c.slots_in-thrust_scale.ensures,
      c.slots_in-servos.ensures,
      s.slots_in-motors.ensures,
      s.vec_in-angular_velocity_radps.ensures,
      s.quat_in-attitude.ensures,
      s.vec_in-velocity_ned_mps.ensures,
      s.vec_in-position_ned_m.ensures,
    )

-- `wing::loads` meets its contract. Assumes nothing.
use Rattle.wing.specs.Loads.{aero_of, air_of, loads_of, loads_under, pull_of}
use Rattle.wing.proofs.loads.Goals as goal

pub with_lift-total-requires : goal.with_lift-total-requires
with_lift-total-requires c = c.requires

pub returns : goal.returns
unfolding loads_of loads_under aero_of pull_of air_of
returns c =
    let s = c in
    let p = s.before.before.before in
    simp (
      c.loaded_by.ensures,
      c.with_lift-total.ensures,
      c.with_thrust-thrusting.ensures,
      s.wrench-aero.ensures,
      s.deflection_rad-deflection_rad.ensures,
      s.wash_of-wash.ensures,
      p.wrench_with-pull.ensures,
      p.inverse_transform_vector-air_mps.ensures,
      p.air_relative_velocity_ned_mps.ensures,
    )

-- A state's body, and the state of a body and its running values. Definitions only.
use Rattle.std.specs.Prelude.{Float, List}
use Rattle.body.specs.declared.Body.{Body}
use Rattle.vector.specs.Rotation.{quat}
use Rattle.vector.specs.Vector.{vec}
use Rattle.flight.specs.declared.Flight.{Flight}

abbrev pub body_of : Flight → Body
body_of f = record {
  position_ned_m = vec f.north_m f.east_m f.down_m;
  velocity_ned_mps = vec f.north_mps f.east_mps f.down_mps;
  attitude = quat f.w f.i f.j f.k;
  angular_velocity_radps = vec f.p_radps f.q_radps f.r_radps;
}

abbrev pub flight_of : Body → List Float → List Float → List Float → List Float → Flight
flight_of b motors servos scales lift = record {
  north_m = b.position_ned_m.x;
  east_m = b.position_ned_m.y;
  down_m = b.position_ned_m.z;
  north_mps = b.velocity_ned_mps.x;
  east_mps = b.velocity_ned_mps.y;
  down_mps = b.velocity_ned_mps.z;
  w = b.attitude.w;
  i = b.attitude.i;
  j = b.attitude.j;
  k = b.attitude.k;
  p_radps = b.angular_velocity_radps.x;
  q_radps = b.angular_velocity_radps.y;
  r_radps = b.angular_velocity_radps.z;
  motors = motors;
  servos = servos;
  thrust_scale = scales;
  lift_motors = lift;
}

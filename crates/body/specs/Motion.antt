-- One step of the rigid body, semi-implicit Euler: the position moves with the new velocity (01, module 7). Definitions only.
use Rattle.std.specs.Prelude.{Float}
use Rattle.float.specs.Notation.{zero, rounded}
use Rattle.vector.specs.Rotation.{from_scaled_axis, renormalized, times_of}
use Rattle.vector.specs.Vector.{add_of, component_div, component_mul, cross_of, scale_of, sub_of, unscale_of, vec}
use Rattle.vector.specs.declared.Quaternion.{Quaternion}
use Rattle.vector.specs.declared.Vec3.{Vec3}
use Rattle.body.specs.declared.Body.{Body}
use Rattle.body.specs.declared.Loads.{Loads}
use Rattle.body.specs.declared.MassProperties.{MassProperties}
use Rattle.body.specs.declared.Wrench.{Wrench}

-- force to force and torque to torque
unfoldable pub add_wrench : Wrench → Wrench → Wrench
add_wrench w u = record {
  force_n = add_of w.force_n u.force_n;
  torque_nm = add_of w.torque_nm u.torque_nm;
}

-- gravity, in m/s²
abbrev pub gravity : Float
gravity = rounded 980665 100000

-- F/m + (0, 0, g): down is +z
unfoldable pub acceleration_of : Vec3 → Float → Vec3
acceleration_of force mass = add_of (unscale_of force mass) (vec zero zero gravity)

unfoldable pub next_velocity : Vec3 → Vec3 → Float → Float → Vec3
next_velocity v force mass h = add_of v (scale_of (acceleration_of force mass) h)

-- by the new velocity
unfoldable pub next_position : Vec3 → Vec3 → Float → Vec3
next_position p v h = add_of p (scale_of v h)

-- Euler's equations, a diagonal inertia I: torque - ω cross (I·ω) - damping
unfoldable pub net_torque : Vec3 → Vec3 → Loads → Vec3
net_torque rates inertia l = sub_of (sub_of l.torque_nm (cross_of rates (component_mul inertia rates))) l.damping_nm

unfoldable pub next_rates : Vec3 → Vec3 → Loads → Float → Vec3
next_rates rates inertia l h = add_of rates (scale_of (component_div (net_torque rates inertia l) inertia) h)

-- the rotation by the new rates stands on the right: they are on body axes
unfoldable pub next_attitude : Quaternion → Vec3 → Float → Quaternion
next_attitude q rates h = renormalized (times_of q (from_scaled_axis (scale_of rates h)))

unfoldable pub step_of : Body → MassProperties → Loads → Float → Body
step_of b m l h =
    let v = next_velocity b.velocity_ned_mps l.force_ned_n m.mass_kg h in
    let w = next_rates b.angular_velocity_radps m.inertia_kgm2 l h in
    record {
      position_ned_m = next_position b.position_ned_m v h;
      velocity_ned_mps = v;
      attitude = next_attitude b.attitude w h;
      angular_velocity_radps = w;
    }

unfoldable pub air_velocity : Body → Vec3 → Vec3
air_velocity b wind = sub_of b.velocity_ned_mps wind

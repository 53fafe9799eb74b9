-- The loads on the body (01, module 8, without its delay line; 02, 5). Definitions only.
use Rattle.std.specs.Prelude.{Float, cond, List}
use Rattle.aero.specs.Wrench.{aero_wrench}
use Rattle.aero.specs.declared.Aero.{Aero}
use Rattle.airframe.specs.declared.Airframe.{Airframe}
use Rattle.body.specs.Motion.{add_wrench, air_velocity}
use Rattle.body.specs.declared.Body.{Body}
use Rattle.body.specs.declared.Wrench.{Wrench}
use Rattle.fixed_wing.specs.declared.FixedWingModel.{FixedWingModel}
use Rattle.flight.specs.declared.Flight.{Flight}
use Rattle.float.specs.Notation.{◌⊗◌, zero}
use Rattle.motors.specs.Motor.{wrench_with}
use Rattle.motors.specs.declared.MotorWrench.{MotorWrench}
use Rattle.motors.specs.declared.Motors.{Motors}
use Rattle.quadplane_model.specs.Lift.{lift_wrench}
use Rattle.surfaces.specs.Surface.{deflection_rad}
use Rattle.surfaces.specs.declared.Surfaces.{Surfaces}
use Rattle.tailsitter_model.specs.Slipstream.{no_wash, wash_of}
use Rattle.tailsitter_model.specs.declared.Wash.{Wash}
use Rattle.vector.specs.Rotation.{inverse_rotate_of, rotate_of}
use Rattle.vector.specs.Vector.{add_of, vec, zero_vec}
use Rattle.vector.specs.declared.Quaternion.{Quaternion}
use Rattle.vector.specs.declared.Vec3.{Vec3}
use Rattle.wing.specs.declared.Loaded.{Loaded}

-- the airframe's motors and surfaces at the state's running values; the motors with its thrust scales (02, 2)
unfoldable pub motors_for : Airframe → Flight → Motors
motors_for a f = record { group = a.motors; running = f.motors; thrust_scale = f.thrust_scale }

unfoldable pub surfaces_for : Airframe → Flight → Surfaces
surfaces_for a f = record { weights = a.weights; running = f.servos }

-- the velocity through the air, on body axes
unfoldable pub air_of : Body → Vec3 → Vec3
air_of b wind = inverse_rotate_of b.attitude (air_velocity b wind)

-- zeros where the airframe has no wash
unfoldable pub wash_for : Airframe → Float → Float → Float → Wash
wash_for a thrust axial density = cond a.wash_present (wash_of a.wash thrust axial density) no_wash

-- thrust along body x, on a line that may lie below the centre of gravity
unfoldable pub with_thrust : FixedWingModel → MotorWrench → Aero → Wrench
with_thrust m pull aero = record {
  force_n = add_of aero.force_n (vec pull.thrust_n zero zero);
  torque_nm =
      add_of (add_of aero.torque_nm pull.torque_nm) (vec zero (pull.thrust_n ⊗ m.thrust_line_below_cg_m) zero);
}

-- the lift rotors' force and torque last; without lift numbers they add nothing (02, 5)
unfoldable pub with_lift : Airframe → List Float → Vec3 → Wrench → Wrench
with_lift a lift_running air w = cond a.lift_present (add_wrench w (lift_wrench a.lift lift_running air)) w

-- the force on NED axes, and what is reported: the thrust is the forward motors' sum
unfoldable pub loaded_by : Quaternion → Wrench → Aero → Float → Loaded
loaded_by q w aero thrust = record {
  loads = record { force_ned_n = rotate_of q w.force_n; torque_nm = w.torque_nm; damping_nm = zero_vec };
  alpha_rad = aero.alpha_rad;
  beta_rad = aero.beta_rad;
  thrust_n = thrust;
}

-- from the running values alone: thrust, wash and aerodynamics in the air that the body meets
unfoldable pub pull_of : FixedWingModel → Motors → Vec3 → MotorWrench
pull_of m motors air = wrench_with motors m.thrust_falloff air.x

unfoldable pub aero_of : Airframe → Float → Surfaces → Body → Vec3 → Float → Aero
aero_of a thrust surfaces b air density =
    aero_wrench a.model air b.angular_velocity_radps
    (deflection_rad surfaces a.model.max_deflection_rad)
    (wash_for a thrust air.x density)
    density

-- under a pull of the motors
unfoldable pub loads_under : Airframe → MotorWrench → Surfaces → List Float → Body → Vec3 → Float → Loaded
loads_under a pull surfaces lift_running b air density =
    let aero = aero_of a pull.thrust_n surfaces b air density in
    loaded_by b.attitude (with_lift a lift_running air (with_thrust a.model pull aero)) aero pull.thrust_n

-- `lift_running` are the lift rotors' running values
unfoldable pub loads_of : Airframe → Motors → Surfaces → List Float → Body → Vec3 → Float → Loaded
loads_of a motors surfaces lift_running b wind density =
    loads_under a (pull_of a.model motors (air_of b wind)) surfaces lift_running b (air_of b wind) density

-- The airframe of its numbers (01, "Airframe numbers by place"; 02, 5), the way back from `numbers_of`; and the zero airframe. Definitions
-- only.
use Rattle.std.specs.Prelude.{◌+◌, ◌-◌, ℕ, eqb, Float, replicate, Bool, cond, false, List}
use Rattle.fixed_wing.specs.declared.AeroCoefficients.{AeroCoefficients}
use Rattle.fixed_wing.specs.declared.FixedWingModel.{FixedWingModel}
use Rattle.fixed_wing.specs.declared.ThrustFalloff.{ThrustFalloff}
use Rattle.fixed_wing.specs.declared.ThrustFalloff.TheVariants.{Linear, PitchSpeed}
use Rattle.float.specs.Notation.{zero}
use Rattle.mixers.specs.Slots.{at}
use Rattle.motors.specs.Motor.{empty_group}
use Rattle.motors.specs.declared.MotorGroup.{MotorGroup}
use Rattle.motors.specs.declared.MotorLayout.{MotorLayout}
use Rattle.tailsitter_model.specs.declared.PropWash.{PropWash}
use Rattle.vector.specs.Vector.{vec, zero_vec}
use Rattle.vector.specs.declared.Vec3.{Vec3}
use Rattle.airframe.specs.Numbers.{lift_first, zero_numbers}
use Rattle.airframe.specs.declared.Airframe.{Airframe}

-- the number of a place up to 48, counted from 1
abbrev pub place : List Float → ℕ → Float
place xs p = at xs (p - 1)

-- and of a place from 52 on, those of the lift rotors
abbrev pub lift_place : List Float → ℕ → Float
lift_place xs p = at xs (lift_first + (p - 52))

-- falloff kind 0 Linear, 1 PitchSpeed
unfoldable pub falloff_of : ℕ → Float → ThrustFalloff
falloff_of kind x = cond (eqb kind 0) (Linear x) (PitchSpeed x)

-- 8 to 30, the coefficients in their own order
unfoldable pub coefficients_of : List Float → AeroCoefficients
coefficients_of xs = record {
  c_lift_0 = place xs 8;
  c_lift_alpha = place xs 9;
  alpha_stall_rad = place xs 10;
  stall_sharpness = place xs 11;
  c_drag_0 = place xs 12;
  oswald = place xs 13;
  c_side_beta = place xs 14;
  c_side_rudder = place xs 15;
  c_roll_beta = place xs 16;
  c_roll_p = place xs 17;
  c_roll_r = place xs 18;
  c_roll_aileron = place xs 19;
  c_roll_rudder = place xs 20;
  c_pitch_0 = place xs 21;
  c_pitch_alpha = place xs 22;
  post_stall_pitch_share = place xs 23;
  c_pitch_q = place xs 24;
  c_pitch_elevator = place xs 25;
  surface_stall_share = place xs 26;
  c_yaw_beta = place xs 27;
  c_yaw_p = place xs 28;
  c_yaw_r = place xs 29;
  c_yaw_rudder = place xs 30;
}

-- 1 mass, 2 to 4 inertia, 5 area, 6 span, 7 chord, 31 to 33 deflections, 34 servo constant, 37 falloff, 38 thrust line
unfoldable pub model_of : List Float → ℕ → FixedWingModel
model_of xs kind = record {
  mass_kg = place xs 1;
  inertia_kgm2 = vec (place xs 2) (place xs 3) (place xs 4);
  wing_area_m2 = place xs 5;
  span_m = place xs 6;
  chord_m = place xs 7;
  aero = coefficients_of xs;
  max_deflection_rad = vec (place xs 31) (place xs 32) (place xs 33);
  servo_time_constant_s = place xs 34;
  thrust_falloff = falloff_of kind (place xs 37);
  thrust_line_below_cg_m = place xs 38;
}

-- the wash, 42 to 48
unfoldable pub wash_from : List Float → PropWash
wash_from xs = record {
  disc_area_m2 = place xs 42;
  surface_fraction = place xs 43;
  roll_fraction = place xs 44;
  damping_fraction = place xs 48;
  sink_loss = place xs 47;
  pitch_moment = place xs 45;
  stall_pitch_moment = place xs 46;
}

-- 35 thrust, 36 exponent, 40 the arm, 41 the yaw torque
unfoldable pub motor_layout_of : List Float → MotorLayout
motor_layout_of xs = record {
  moment_arm_m = place xs 40;
  yaw_torque_per_thrust_m = place xs 41;
  max_thrust_n = place xs 35;
  thrust_exponent = place xs 36;
}

-- 39 motor constant
abbrev pub motor_constant : List Float → Float
motor_constant xs = place xs 39

-- the lift rotors' (02, 5): 52 thrust, 53 exponent, 54 the arm, 55 the yaw torque
unfoldable pub lift_layout_of : List Float → MotorLayout
lift_layout_of xs = record {
  moment_arm_m = lift_place xs 54;
  yaw_torque_per_thrust_m = lift_place xs 55;
  max_thrust_n = lift_place xs 52;
  thrust_exponent = lift_place xs 53;
}

-- 56 lag constant, 57 drag
abbrev pub lift_constant : List Float → Float
lift_constant xs = lift_place xs 56

abbrev pub lift_drag : List Float → Float
lift_drag xs = lift_place xs 57

-- the airframe of its numbers, the falloff's kind, whether there are a wash and lift numbers, and what its rows fill: the group of
-- motors, the surfaces' weights and the group of lift rotors
unfoldable pub airframe_of : List Float → ℕ → Bool → Bool → MotorGroup → List Vec3 → MotorGroup → Airframe
airframe_of xs kind wash lift motors weights rotors = record {
  model = model_of xs kind;
  wash_present = wash;
  wash = wash_from xs;
  motors = motors;
  weights = weights;
  lift_present = lift;
  lift = record { motors = rotors; drag_per_thrust_n_per_mps = lift_drag xs };
}

-- the zero airframe, which a refused read gives: all numbers 0, Linear, wash and lift numbers absent, no slot marked
unfoldable pub zero_airframe : Airframe
zero_airframe =
    airframe_of zero_numbers 0 false false (empty_group (motor_layout_of zero_numbers) zero) (replicate 8 zero_vec)
    (empty_group (lift_layout_of zero_numbers) zero)

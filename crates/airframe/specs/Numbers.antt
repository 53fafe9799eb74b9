-- The airframe's numbers by place (01, "Airframe numbers by place"; 02, 5). Definitions only.
use Rattle.std.specs.Prelude.{◌+◌, ℕ, Float, replicate, Bool, true, List, [], ◌∷◌}
use Rattle.fixed_wing.specs.declared.AeroCoefficients.{AeroCoefficients}
use Rattle.fixed_wing.specs.declared.FixedWingModel.{FixedWingModel}
use Rattle.fixed_wing.specs.declared.ThrustFalloff.{ThrustFalloff}
use Rattle.fixed_wing.specs.declared.ThrustFalloff.TheVariants.{Linear, PitchSpeed}
use Rattle.float.specs.Notation.{zero}
use Rattle.motors.specs.declared.MotorGroup.{MotorGroup}
use Rattle.quadplane_model.specs.declared.LiftRotors.{LiftRotors}
use Rattle.tailsitter_model.specs.declared.PropWash.{PropWash}
use Rattle.vector.specs.declared.Vec3.{Vec3}
use Rattle.airframe.specs.declared.Airframe.{Airframe}
use Rattle.airframe.specs.declared.numbers.Segment.{Segment}

abbrev pub falloff_number : ThrustFalloff → Float
falloff_number (Linear n) = n
falloff_number (PitchSpeed n) = n

-- ---- segments of the numbers: 41 that every airframe has, places 1 to 41, the wash's 7, places 42 to 48, if there is one, and the
-- lift rotors' 6, places 52 to 57, if the header says so (02, 5)
abbrev pub base_count : ℕ
base_count = 41

abbrev pub wash_first : ℕ
wash_first = base_count

abbrev pub wash_count : ℕ
wash_count = 7

abbrev pub lift_first : ℕ
lift_first = wash_first + wash_count

abbrev pub lift_count : ℕ
lift_count = 6

abbrev pub numbers_count : ℕ
numbers_count = lift_first + lift_count

abbrev pub base_segment : Segment
base_segment = record { present = true; first = 0; count = base_count; place = 1 }

abbrev pub wash_segment : Bool → Segment
wash_segment present = record { present = present; first = wash_first; count = wash_count; place = 42 }

abbrev pub lift_segment : Bool → Segment
lift_segment present = record { present = present; first = lift_first; count = lift_count; place = 52 }

-- ---- the numbers, a segment after the other

-- 8 to 30, the coefficients in their own order
unfoldable pub coefficient_numbers : AeroCoefficients → List Float → List Float
coefficient_numbers c more =
    c.c_lift_0 ∷ c.c_lift_alpha ∷ c.alpha_stall_rad ∷ c.stall_sharpness ∷ c.c_drag_0 ∷ c.oswald ∷ c.c_side_beta ∷
    c.c_side_rudder ∷ c.c_roll_beta ∷ c.c_roll_p ∷ c.c_roll_r ∷ c.c_roll_aileron ∷ c.c_roll_rudder ∷ c.c_pitch_0 ∷
    c.c_pitch_alpha ∷ c.post_stall_pitch_share ∷ c.c_pitch_q ∷ c.c_pitch_elevator ∷ c.surface_stall_share ∷
    c.c_yaw_beta ∷ c.c_yaw_p ∷ c.c_yaw_r ∷ c.c_yaw_rudder ∷ more

abbrev vec_then : Vec3 → List Float → List Float
vec_then v more = v.x ∷ v.y ∷ v.z ∷ more

-- 1 mass, 2 to 4 inertia, 5 area, 6 span, 7 chord, 8 to 30 the coefficients, 31 to 33 deflections, 34 servo constant, 35 thrust,
-- 36 exponent, 37 falloff, 38 thrust line, 39 motor constant, 40 the arm, 41 the yaw torque
unfoldable pub base_numbers : FixedWingModel → MotorGroup → List Float → List Float
base_numbers m g more =
    m.mass_kg ∷ vec_then m.inertia_kgm2 (m.wing_area_m2 ∷ m.span_m ∷ m.chord_m ∷
    coefficient_numbers m.aero
    (vec_then m.max_deflection_rad (m.servo_time_constant_s ∷ g.layout.max_thrust_n ∷ g.layout.thrust_exponent ∷
    falloff_number m.thrust_falloff ∷ m.thrust_line_below_cg_m ∷ g.time_constant_s ∷ g.layout.moment_arm_m ∷
    g.layout.yaw_torque_per_thrust_m ∷ more)))

-- the wash's, 42 to 48
unfoldable pub wash_numbers : PropWash → List Float → List Float
wash_numbers w more =
    w.disc_area_m2 ∷ w.surface_fraction ∷ w.roll_fraction ∷ w.pitch_moment ∷ w.stall_pitch_moment ∷ w.sink_loss ∷
    w.damping_fraction ∷ more

-- the lift rotors', 52 to 57: thrust, exponent, arm, yaw torque, lag constant, drag
unfoldable pub lift_numbers : LiftRotors → List Float → List Float
lift_numbers l more =
    l.motors.layout.max_thrust_n ∷ l.motors.layout.thrust_exponent ∷ l.motors.layout.moment_arm_m ∷
    l.motors.layout.yaw_torque_per_thrust_m ∷ l.motors.time_constant_s ∷ l.drag_per_thrust_n_per_mps ∷ more

unfoldable pub numbers_of : Airframe → List Float
numbers_of a = base_numbers a.model a.motors (wash_numbers a.wash (lift_numbers a.lift []))

-- numbers that are all 0
abbrev pub zero_numbers : List Float
zero_numbers = replicate numbers_count zero

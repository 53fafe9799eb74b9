-- The aerodynamic wrench (01, module 6). The air's density is an argument, and so is the wash (module 5). Definitions only.
use Rattle.std.specs.Prelude.{Float, cond}
use Rattle.std.specs.Float.{binary32}
use Rattle.std.specs.Float.Ieee.{lt, neg}
use Rattle.book.specs.Formulas as formulas
use Rattle.book.specs.Numbers.{floats}
use Rattle.fixed_wing.specs.declared.FixedWingModel.{FixedWingModel}
use Rattle.float.specs.Notation.{◌⊕◌, ◌⊗◌, ◌⊘◌, at_least_zero, clamp, one, zero}
use Rattle.libm.specs.Atan.{asin_of, atan2_of}
use Rattle.libm.specs.Sqrt.{sqrt_of}
use Rattle.libm.specs.Trig.{cos_of, sin_of}
use Rattle.tailsitter_model.specs.declared.Wash.{Wash}
use Rattle.vector.specs.Vector.{add_of, norm_of, scale_of, vec}
use Rattle.vector.specs.declared.Vec3.{Vec3}
use Rattle.aero.specs.Coefficients.{drag_coefficient, flat_plate_drag, lift_coefficient, pitch_coefficient, stall_blend}
use Rattle.aero.specs.declared.Aero.{Aero}
use Rattle.aero.specs.declared.Flow.{Flow}

-- ---- pressures
-- dynamic pressure times wing area: ½ ρ V² S
unfoldable pub pressure_area : FixedWingModel → Float → Float → Float
pressure_area m v density = formulas.pressure_area floats density v m.wing_area_m2

-- the wash's scale in the rate terms: ½ ρ u S, by its own speed u
unfoldable pub wash_rate_scale : FixedWingModel → Wash → Float → Float
wash_rate_scale m w density = formulas.wash_scale floats density w.damping_mps m.wing_area_m2

-- what the surfaces see: the free stream's and the wash's, not below 0
unfoldable pub with_wash : Float → Float → Float → Float
with_wash free pa area = formulas.surface_pressure floats at_least_zero free pa area

-- ---- rate terms: the scale is ½ρV²S / V of the free stream, and the wash's ½ρuS by its own speed u, in still air too
unfoldable pub rate_moments : FixedWingModel → Float → Vec3 → Vec3
rate_moments m scale rates =
    vec
    (formulas.two_rates floats scale m.span_m m.aero.c_roll_p m.aero.c_roll_r rates.x rates.z)
    (formulas.one_rate floats scale m.chord_m m.aero.c_pitch_q rates.y)
    (formulas.two_rates floats scale m.span_m m.aero.c_yaw_p m.aero.c_yaw_r rates.x rates.z)

-- ---- the surfaces: aileron (x), elevator (y), rudder (z); the aileron's under `roll`, the others' under `area`
unfoldable pub aileron_moment : FixedWingModel → Float → Vec3 → Vec3
aileron_moment m roll d = vec (formulas.moment floats roll m.span_m m.aero.c_roll_aileron d.x) zero zero

unfoldable pub elevator_and_rudder : FixedWingModel → Vec3 → Vec3
elevator_and_rudder m d =
    vec
    (formulas.surface_moment floats m.span_m m.aero.c_roll_rudder d.z)
    (formulas.surface_moment floats m.chord_m m.aero.c_pitch_elevator d.y)
    (formulas.surface_moment floats m.span_m m.aero.c_yaw_rudder d.z)

unfoldable pub surface_wrench : FixedWingModel → Float → Float → Vec3 → Aero
surface_wrench m roll area d = record {
  force_n = vec zero (formulas.side floats area m.aero.c_side_rudder d.z) zero;
  torque_nm = add_of (aileron_moment m roll d) (scale_of (elevator_and_rudder m d) area);
  alpha_rad = zero;
  beta_rad = zero;
}

-- the wash has one pressure for the roll action and one for the others
unfoldable pub washed_surfaces : FixedWingModel → Wash → Float → Vec3 → Aero
washed_surfaces m w free d =
    surface_wrench m
    (with_wash free w.roll_pressure_pa m.wing_area_m2)
    (with_wash free w.pressure_pa m.wing_area_m2)
    d

-- ---- the wash's pitch moment: in any flow, and more beyond the stall, by how much of the pressure is free stream
unfoldable pub wash_pitch : FixedWingModel → Wash → Vec3
wash_pitch m w = vec zero (formulas.wash_moment floats w.pitch_moment_pa m.wing_area_m2 m.chord_m) zero

unfoldable pub free_share : Float → Float → Float
free_share free total = cond (lt zero total) (free ⊘ total) zero

unfoldable pub stall_share : Flow → Float → Float → Float
stall_share f free pa = f.blend ⊗ free_share free (free ⊕ at_least_zero pa) ⊗ at_least_zero f.cos_alpha

unfoldable pub stall_wash : FixedWingModel → Flow → Float → Wash → Vec3
stall_wash m f area w =
    vec zero
    (formulas.wash_moment floats
    (stall_share f (area ⊘ m.wing_area_m2) w.pressure_pa ⊗ w.stall_pitch_moment_pa)
    m.wing_area_m2
    m.chord_m)
    zero

-- ---- what lift, drag and pitch go by: α = atan2(w, u), and the pressure of √(u² + w²), the speed in the plane of symmetry
unfoldable pub symmetric_speed : Vec3 → Float
symmetric_speed air = sqrt_of binary32 (air.x ⊗ air.x ⊕ air.z ⊗ air.z)

unfoldable pub flow_at : FixedWingModel → Float → Float → Flow
flow_at m alpha area = record {
  alpha_rad = alpha;
  blend = stall_blend m.aero alpha;
  sin_alpha = sin_of alpha;
  cos_alpha = cos_of alpha;
  symmetric_area_n = area;
}

unfoldable pub flow_of : FixedWingModel → Vec3 → Float → Flow
flow_of m air density = flow_at m (atan2_of air.z air.x) (pressure_area m (symmetric_speed air) density)

-- β = asin(v / V)
unfoldable pub sideslip : Float → Float → Float
sideslip v speed = asin_of (clamp (neg one) one (v ⊘ speed))

-- ---- forces: lift at a right angle to (u, w), drag against it
unfoldable pub flow_lift : FixedWingModel → Flow → Float
flow_lift m f = f.symmetric_area_n ⊗ lift_coefficient m.aero f.alpha_rad f.blend f.sin_alpha f.cos_alpha

unfoldable pub flow_drag : FixedWingModel → Flow → Float
flow_drag m f =
    formulas.blended_drag floats f.symmetric_area_n f.blend (drag_coefficient m f.alpha_rad) (flat_plate_drag m.aero f.sin_alpha)

unfoldable pub flow_force : FixedWingModel → Flow → Float → Vec3
flow_force m f side =
    vec
    (formulas.forward floats (flow_lift m f) (flow_drag m f) f.sin_alpha f.cos_alpha)
    side
    (formulas.down floats (flow_lift m f) (flow_drag m f) f.sin_alpha f.cos_alpha)

-- ---- static moments; the pressure of the whole airspeed for the sideslip terms
unfoldable pub static_moments : FixedWingModel → Flow → Float → Float → Vec3
static_moments m f area beta =
    vec
    (formulas.moment floats area m.span_m m.aero.c_roll_beta beta)
    (f.symmetric_area_n ⊗ m.chord_m ⊗ pitch_coefficient m.aero f.alpha_rad f.blend f.sin_alpha f.cos_alpha)
    (formulas.moment floats area m.span_m m.aero.c_yaw_beta beta)

-- ---- the whole
unfoldable pub with_surfaces : Vec3 → Vec3 → Aero → Float → Float → Aero
with_surfaces force torque s alpha beta = record {
  force_n = add_of force s.force_n;
  torque_nm = add_of torque s.torque_nm;
  alpha_rad = alpha;
  beta_rad = beta;
}

-- past the stall the surfaces lose a share of the free stream
unfoldable pub surface_free : FixedWingModel → Flow → Float → Float
surface_free m f area = formulas.surface_free floats area m.aero.surface_stall_share f.blend

unfoldable pub torque_at : FixedWingModel → Float → Flow → Float → Vec3 → Wash → Float → Float → Vec3
torque_at m speed f beta rates w density area =
    add_of (add_of (add_of (static_moments m f area beta) (wash_pitch m w)) (stall_wash m f area w))
    (rate_moments m (formulas.rate_scale floats area speed (wash_rate_scale m w density)) rates)

unfoldable pub moving_at : FixedWingModel → Float → Flow → Float → Vec3 → Vec3 → Wash → Float → Float → Aero
moving_at m speed f beta rates d w density area =
    with_surfaces
    (flow_force m f (formulas.side floats area m.aero.c_side_beta beta))
    (torque_at m speed f beta rates w density area)
    (washed_surfaces m w (surface_free m f area) d)
    f.alpha_rad beta

unfoldable pub moving_of : FixedWingModel → Float → Flow → Float → Vec3 → Vec3 → Wash → Float → Aero
moving_of m speed f beta rates d w density = moving_at m speed f beta rates d w density (pressure_area m speed density)

unfoldable pub still_of : FixedWingModel → Vec3 → Vec3 → Wash → Float → Aero
still_of m rates d w density =
    let s = washed_surfaces m w zero d in
    record {
      force_n = s.force_n;
      torque_nm = add_of (add_of s.torque_nm (wash_pitch m w)) (rate_moments m (wash_rate_scale m w density) rates);
      alpha_rad = s.alpha_rad;
      beta_rad = s.beta_rad;
    }

-- where V is not above 0, or a NaN, the air is still: alpha and beta are 0
unfoldable pub aero_wrench : FixedWingModel → Vec3 → Vec3 → Vec3 → Wash → Float → Aero
aero_wrench m air rates d w density =
    cond (lt zero (norm_of air))
    (moving_of m (norm_of air) (flow_of m air density) (sideslip air.y (norm_of air)) rates d w density)
    (still_of m rates d w density)

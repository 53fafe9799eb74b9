-- The model and its flight by the book's letters: what the statement about the book reads of them. Definitions only.
use Rattle.std.specs.Prelude.{Float}
use Rattle.std.specs.Float.Ieee.{le}
use Rattle.book.specs.Departures.{Besides}
use Rattle.book.specs.Equations.{Motion, Wing}
use Rattle.fixed_wing.specs.declared.FixedWingModel.{FixedWingModel}
use Rattle.float.specs.Notation.{◌⊕◌, ◌⊗◌, ◌⊘◌, at_least_zero, zero}
use Rattle.tailsitter_model.specs.declared.Wash.{Wash}
use Rattle.vector.specs.Vector.{norm_of}
use Rattle.vector.specs.declared.Vec3.{Vec3}
use Rattle.aero.specs.Coefficients.{flat_plate_pitch, hold}
use Rattle.aero.specs.Wrench.{flow_of, pressure_area, sideslip, stall_share, symmetric_speed}

abbrev pub wing_of : FixedWingModel → Wing Float
wing_of m = record {
  S = m.wing_area_m2;
  b = m.span_m;
  c = m.chord_m;
  e = m.aero.oswald;
  M = m.aero.stall_sharpness;
  α0 = m.aero.alpha_stall_rad;
  CL0 = m.aero.c_lift_0;
  CLα = m.aero.c_lift_alpha;
  CDp = m.aero.c_drag_0;
  CYβ = m.aero.c_side_beta;
  CYδr = m.aero.c_side_rudder;
  Clβ = m.aero.c_roll_beta;
  Clp = m.aero.c_roll_p;
  Clr = m.aero.c_roll_r;
  Clδa = m.aero.c_roll_aileron;
  Clδr = m.aero.c_roll_rudder;
  Cm0 = m.aero.c_pitch_0;
  Cmα = m.aero.c_pitch_alpha;
  Cmq = m.aero.c_pitch_q;
  Cmδe = m.aero.c_pitch_elevator;
  Cnβ = m.aero.c_yaw_beta;
  Cnp = m.aero.c_yaw_p;
  Cnr = m.aero.c_yaw_r;
  Cnδr = m.aero.c_yaw_rudder;
}

-- of (u, v, w), (p, q, r), the deflections and the density
abbrev pub motion_of : FixedWingModel → Vec3 → Vec3 → Vec3 → Float → Motion Float
motion_of m air rates d density = record {
  ρ = density;
  Va = norm_of air;
  α = (flow_of m air density).alpha_rad;
  β = sideslip air.y (norm_of air);
  p = rates.x;
  q = rates.y;
  r = rates.z;
  δa = d.x;
  δe = d.y;
  δr = d.z;
}

-- the clamp, the floor, the speed in the plane of symmetry, the stall's shares, the flat plate and the wash
abbrev pub besides_of : FixedWingModel → Vec3 → Wash → Float → Besides Float
besides_of m air w density =
    let f = flow_of m air density in
    record {
      hold = hold;
      floor = at_least_zero;
      Vs = symmetric_speed air;
      surface_stall_share = m.aero.surface_stall_share;
      turned = m.aero.c_pitch_0 ⊕ flat_plate_pitch m.aero f.alpha_rad f.sin_alpha f.cos_alpha;
      plate_share = m.aero.post_stall_pitch_share;
      no_plate = le (m.aero.post_stall_pitch_share ⊗ f.blend) zero;
      wash_speed = w.damping_mps;
      roll_pressure = w.roll_pressure_pa;
      pressure = w.pressure_pa;
      pitch_pressure = w.pitch_moment_pa;
      stall_pressure =
          stall_share f (pressure_area m (norm_of air) density ⊘ m.wing_area_m2) w.pressure_pa ⊗ w.stall_pitch_moment_pa;
    }

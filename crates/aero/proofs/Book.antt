-- The wrench in moving air is the one that book/proofs/Exact holds against the book, read in floats; and where the clamp does not act
-- the stall blend is the book's. Assumes nothing.
use lib.Dec.{T}
use lib.Ieee.{Float, div, lt, neg, round}
use lib.Ieee.Bits.{is_true}
use mathlib.Core.Path.{◌≡◌, refl}
use Rattle.book.proofs.Exact.{blend-held}
use Rattle.book.specs.Departures as departs
use Rattle.book.specs.Equations as book
use Rattle.book.specs.Equations.{Wrench}
use Rattle.book.specs.Numbers.{floats}
use Rattle.fixed_wing.specs.Falloff.{aspect_ratio}
use Rattle.fixed_wing.specs.declared.AeroCoefficients.{AeroCoefficients}
use Rattle.fixed_wing.specs.declared.FixedWingModel.{FixedWingModel}
use Rattle.float.proofs.Interval.{clamp-same}
use Rattle.float.specs.Interval.{Within}
use Rattle.float.specs.Notation.{◌⊕◌, ◌⊖◌, ◌⊗◌, zero}
use Rattle.tailsitter_model.specs.declared.Wash.{Wash}
use Rattle.vector.specs.Vector.{add_of, norm_of, scale_of, vec}
use Rattle.vector.specs.declared.Vec3.{Vec3}
use Rattle.aero.specs.Coefficients.{attached_pitch, drag_coefficient, flat_plate_drag, hold, lift_coefficient, pitch_coefficient, sixty, stall_blend}
use Rattle.aero.specs.Letters.{besides_of, motion_of, wing_of}
use Rattle.aero.specs.Wrench.{aero_wrench, aileron_moment, elevator_and_rudder, flow_at, flow_drag, flow_force, flow_lift, flow_of, moving_at, moving_of}
use Rattle.aero.specs.Wrench.{pressure_area, rate_moments, sideslip, stall_wash, static_moments, surface_free, surface_wrench, torque_at}
use Rattle.aero.specs.Wrench.{wash_pitch, wash_rate_scale, washed_surfaces, with_surfaces, with_wash}
use Rattle.aero.specs.declared.Aero.{Aero}

-- ---- the stall blend
hold-same : (x : Float) → Within (neg sixty) sixty x → hold x ≡ x
unfolding hold
hold-same x w = clamp-same (neg sixty) sixty x (unfold neg round in tt) (unfold round in tt) w

-- where both exponents lie within ±60 it is the book's
pub blend_is : (c : AeroCoefficients) (alpha : Float)
    → Within (neg sixty) sixty (neg c.stall_sharpness ⊗ (alpha ⊖ c.alpha_stall_rad))
    → Within (neg sixty) sixty (c.stall_sharpness ⊗ (alpha ⊕ c.alpha_stall_rad))
    → stall_blend c alpha ≡ book.blend floats c.stall_sharpness c.alpha_stall_rad alpha
unfolding stall_blend
blend_is c alpha h k = blend-held floats hold _ _ alpha (hold-same _ h) (hold-same _ k)

-- ---- the wrench
abbrev pub aero_of : Wrench Float → Float → Float → Aero
aero_of v alpha beta = record {
  force_n = vec v.fx v.fy v.fz;
  torque_nm = vec v.l v.m v.n;
  alpha_rad = alpha;
  beta_rad = beta;
}

module _ (m : FixedWingModel) (air rates d : Vec3) (w : Wash) (density : Float) where
  abbrev beta : Float
  beta = sideslip air.y (norm_of air)

  abbrev alpha : Float
  alpha = (flow_of m air density).alpha_rad

  abbrev read : Wrench Float
  read = departs.wrench floats (wing_of m) (motion_of m air rates d density) (besides_of m air w density)

  moving-is : moving_of m (norm_of air) (flow_of m air density) beta rates d w density ≡ aero_of read alpha beta
  unfolding moving_of moving_at with_surfaces flow_force flow_lift flow_drag lift_coefficient drag_coefficient flat_plate_drag aspect_ratio book.aspect
      torque_at static_moments pitch_coefficient attached_pitch wash_pitch stall_wash rate_moments wash_rate_scale washed_surfaces with_wash surface_free
      surface_wrench aileron_moment elevator_and_rudder add_of scale_of pressure_area flow_of flow_at stall_blend departs.wrench round div
  moving-is = refl

  -- in moving air the wrench is the one over any numbers, read in floats
  pub wrench-is : T (lt zero (norm_of air)) → aero_wrench m air rates d w density ≡ aero_of read alpha beta
  unfolding aero_wrench
  wrench-is h = rw (is_true (lt zero (norm_of air)) h) moving-is

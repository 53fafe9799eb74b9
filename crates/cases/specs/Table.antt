-- The cases of 01, "Flown by hand", marked P: what each definition gives, and the bits that 01 says, as one table. Compared as results
-- are: a zero of either sign is 00000000. Definitions only.
use Rattle.std.specs.Prelude.{ℕ, eqb, Float, replicate, Bool, ◌&&◌, false, true, List, [], ◌∷◌}
use Rattle.std.specs.Float.{binary32, inf, nan}
use Rattle.std.specs.Float.Ieee.{neg, to_bits}
use Rattle.aero.specs.Coefficients.{stall_blend}
use Rattle.fixed_wing.specs.Falloff.{falloff_share}
use Rattle.fixed_wing.specs.declared.AeroCoefficients.{AeroCoefficients}
use Rattle.fixed_wing.specs.declared.ThrustFalloff.TheVariants.{PitchSpeed}
use Rattle.float.specs.Notation.{half, minus_one, zero, one, rounded, two}
use Rattle.float.specs.Same.{num}
use Rattle.lag.specs.Lag.{approach_of, approach_saturated}
use Rattle.libm.specs.Atan.{atan2_of}
use Rattle.libm.specs.Sqrt.{sqrt_of}
use Rattle.mixers.specs.Rows.{no_row}
use Rattle.mixers.specs.Slots.{vec_at}
use Rattle.mixers.specs.declared.Rows.{Rows}
use Rattle.mixers.specs.declared.Slot.TheVariants.{Servo}
use Rattle.surfaces.specs.Surface.{surfaces_of}
use Rattle.tailsitter_model.specs.Slipstream.{added_pa}
use Rattle.tailsitter_model.specs.declared.PropWash.{PropWash}

pub record Case : Type 0 where
  pub value : Float
  pub bits : ℕ

abbrev pub is : Float → ℕ → Case
is v b = record { value = v; bits = b }

-- sharpness 0, at an angle of attack of 0.5 and a stall angle of 0.25
unfoldable pub blunt : AeroCoefficients
blunt = record {
  c_lift_0 = zero;
  c_lift_alpha = zero;
  alpha_stall_rad = rounded 25 100;
  stall_sharpness = zero;
  c_drag_0 = zero;
  oswald = one;
  c_side_beta = zero;
  c_side_rudder = zero;
  c_roll_beta = zero;
  c_roll_p = zero;
  c_roll_r = zero;
  c_roll_aileron = zero;
  c_roll_rudder = zero;
  c_pitch_0 = zero;
  c_pitch_alpha = zero;
  post_stall_pitch_share = zero;
  c_pitch_q = zero;
  c_pitch_elevator = zero;
  surface_stall_share = zero;
  c_yaw_beta = zero;
  c_yaw_p = zero;
  c_yaw_r = zero;
  c_yaw_rudder = zero;
}

-- a disc of 1 m² with a sink loss of 0.5
unfoldable pub disc : PropWash
disc = record {
  disc_area_m2 = one;
  surface_fraction = one;
  roll_fraction = one;
  damping_fraction = one;
  sink_loss = half;
  pitch_moment = zero;
  stall_pitch_moment = zero;
}

-- one row, of the servo at slot k, factor 0.5 on each axis; and the weight it gets
unfoldable pub one_servo : ℕ → Rows
one_servo k = record { rows = record { slot = Servo k; roll = half; pitch = half; yaw = half } ∷ replicate 15 no_row; count = 1 }

abbrev servo_weight : ℕ → Float
servo_weight k = (vec_at (surfaces_of (one_servo k)).weights k).x

unfoldable pub table : List Case
table =
    -- approach 0 to 1, factor 0.5: 0.5
    is (approach_of zero one half) 0x3F000000
    -- NaN command, running 0.5, factor 0.5: 0.25
    ∷ is (approach_saturated half nan zero one zero half) 0x3E800000
    -- +infinity, running 1: 1
    ∷ is (approach_saturated one (inf false) zero one zero half) 0x3F800000
    -- servo -7, running 0, factor 1: -1
    ∷ is (approach_saturated zero (neg (rounded 7 1)) minus_one one zero one) 0xBF800000
    -- PitchSpeed 20, share 0.25, speed 5: 0.5; speed NaN: 1; share 0, speed 5: 0
    ∷ is (falloff_share (PitchSpeed (rounded 20 1)) one (rounded 1 4) (rounded 5 1)) 0x3F000000
    ∷ is (falloff_share (PitchSpeed (rounded 20 1)) one (rounded 1 4) nan) 0x3F800000
    ∷ is (falloff_share (PitchSpeed (rounded 20 1)) one zero (rounded 5 1)) 0
    -- sharpness 0: blend 0.75
    ∷ is (stall_blend blunt half) 0x3F400000
    -- atan2(-0, -1) = 40490FDB
    ∷ is (atan2_of (neg zero) minus_one) 0x40490FDB
    -- one servo, factor 0.5: weight 2, whatever its slot
    ∷ is (servo_weight 0) 0x40000000
    ∷ is (servo_weight 1) 0x40000000
    ∷ is (servo_weight 2) 0x40000000
    ∷ is (servo_weight 3) 0x40000000
    ∷ is (servo_weight 4) 0x40000000
    ∷ is (servo_weight 5) 0x40000000
    ∷ is (servo_weight 6) 0x40000000
    ∷ is (servo_weight 7) 0x40000000
    -- sqrt(2) = 3FB504F3
    ∷ is (sqrt_of binary32 two) 0x3FB504F3
    -- thrust 0.6125, disc 1, sink loss 0.5, axial -1: added 0
    ∷ is (added_pa disc (rounded 6125 10000) minus_one (rounded 1225 1000)) 0
    ∷ []

-- a case holds: the value's bits, without the sign of a zero
unfoldable pub holds : Case → Bool
holds c = eqb (to_bits binary32 (num c.value)) c.bits

unfoldable pub all_hold : List Case → Bool
all_hold [] = true
all_hold (c ∷ cs) = holds c && all_hold cs

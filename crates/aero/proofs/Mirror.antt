-- The wrench in a mirror of left and right is the mirrored wrench. What goes by u and w is the same as data, alpha's zeros too: so are lift, drag, static pitch
-- and every pressure, and only sideslip, rates and deflections are negated. Model, wash and density are the same data. Assumes nothing.
use lib.Ieee.{Float, binary32, lt}
use mathlib.Core.Bool.{false, true}
use mathlib.Core.Path.{◌≡◌, refl}
use Rattle.fixed_wing.specs.declared.FixedWingModel.{FixedWingModel}
use Rattle.float.proofs.Mirror.{by-test, exact-plus, mirror, mul-so, mul-ss, r-clamp, r-div, r-eq, r-lt, r-same, size_is, square-plus}
use Rattle.float.specs.Notation.{◌⊗◌, zero, one}
use Rattle.float.specs.Same.{Rel}
use Rattle.libm.proofs.Mirror.{r-asin}
use Rattle.libm.specs.Atan.{atan2_of, beyond, off_origin, sided}
use Rattle.tailsitter_model.specs.declared.Wash.{Wash}
use Rattle.vector.proofs.Mirror.{add-mirror, norm-is, vec-mirror}
use Rattle.vector.specs.Reflection.{VecRel}
use Rattle.vector.specs.Vector.{add_of, norm_of, scale_of, vec}
use Rattle.vector.specs.declared.Vec3.{Vec3}
use Rattle.aero.specs.Reflection.{AeroRel}
use Rattle.aero.specs.Wrench.{aileron_moment, elevator_and_rudder, flow_force, flow_of, moving_at, moving_of, rate_moments, sideslip}
use Rattle.aero.specs.Wrench.{stall_wash, static_moments, still_of, surface_wrench, symmetric_speed, torque_at, wash_pitch}
use Rattle.aero.specs.Wrench.{washed_surfaces, with_surfaces, aero_wrench}
use Rattle.aero.specs.declared.Aero.{Aero}
use Rattle.aero.specs.declared.Flow.{Flow}

-- ---- the flow is the same as data
square-is : {x x' : Float} → Rel false x x' → x' ⊗ x' ≡ x ⊗ x
square-is {x} {x'} h = exact-plus (mul-ss h h) (square-plus binary32 x) (square-plus binary32 x')

symmetric-speed-is : {air air' : Vec3} → VecRel false air air' → symmetric_speed air' ≡ symmetric_speed air
unfolding symmetric_speed
symmetric-speed-is h = rw (square-is h.x, square-is h.z)

-- atan2 takes its numbers by their sizes and by tests
alpha-is : {y y' x x' : Float} → Rel false y y' → Rel false x x' → atan2_of y' x' ≡ atan2_of y x
unfolding atan2_of off_origin sided beyond
alpha-is h k = rw (size_is h, size_is k, r-eq h (r-same zero), r-eq k (r-same zero), r-lt h (r-same zero), r-lt k (r-same zero))

pub flow-is : {air air' : Vec3} (m : FixedWingModel) (density : Float) → VecRel false air air' → flow_of m air' density ≡ flow_of m air density
unfolding flow_of
flow-is m density h = rw (alpha-is h.z h.x, symmetric-speed-is h)

-- ---- what is negated
pub sideslip-mirror : {v v' : Float} (speed : Float) → Rel true v v' → Rel true (sideslip v speed) (sideslip v' speed)
unfolding sideslip
sideslip-mirror speed h = r-asin (r-clamp one tt (r-div speed h))

pub rate-moments-mirror : {rates rates' : Vec3} (m : FixedWingModel) (scale : Float) → VecRel true rates rates'
    → VecRel true (rate_moments m scale rates) (rate_moments m scale rates')
unfolding rate_moments
rate-moments-mirror m scale h = search mirror depth 8

pub surface-wrench-mirror : {d d' : Vec3} (m : FixedWingModel) (roll area : Float) → VecRel true d d'
    → AeroRel (surface_wrench m roll area d) (surface_wrench m roll area d')
unfolding surface_wrench aileron_moment elevator_and_rudder add_of scale_of
surface-wrench-mirror m roll area h = search mirror depth 10

surfaces-mirror : {d d' : Vec3} (m : FixedWingModel) (w : Wash) (free : Float) → VecRel true d d'
    → AeroRel (washed_surfaces m w free d) (washed_surfaces m w free d')
unfolding washed_surfaces
surfaces-mirror m w free h = surface-wrench-mirror m _ _ h

-- a pitch moment alone is its own mirror image
pitch-mirror : (x : Float) → VecRel true (vec zero x zero) (vec zero x zero)
pitch-mirror x = search mirror

wash-pitch-mirror : (m : FixedWingModel) (w : Wash) → VecRel true (wash_pitch m w) (wash_pitch m w)
unfolding wash_pitch
wash-pitch-mirror m w = pitch-mirror _

stall-wash-mirror : (m : FixedWingModel) (f : Flow) (area : Float) (w : Wash) → VecRel true (stall_wash m f area w) (stall_wash m f area w)
unfolding stall_wash
stall-wash-mirror m f area w = pitch-mirror _

static-mirror : {beta beta' : Float} (m : FixedWingModel) (f : Flow) (area : Float) → Rel true beta beta'
    → VecRel true (static_moments m f area beta) (static_moments m f area beta')
unfolding static_moments
static-mirror m f area h = search mirror

force-mirror : {side side' : Float} (m : FixedWingModel) (f : Flow) → Rel true side side' → VecRel false (flow_force m f side) (flow_force m f side')
unfolding flow_force
force-mirror m f h = vec-mirror (r-same _) h (r-same _)

torque-mirror : {beta beta' : Float} {rates rates' : Vec3} (m : FixedWingModel) (speed : Float) (f : Flow) (w : Wash) (density area : Float)
    → Rel true beta beta' → VecRel true rates rates' → VecRel true (torque_at m speed f beta rates w density area)
    (torque_at m speed f beta' rates' w density area)
unfolding torque_at
torque-mirror m speed f w density area h k =
    add-mirror (add-mirror (add-mirror (static-mirror m f area h) (wash-pitch-mirror m w)) (stall-wash-mirror m f area w)) (rate-moments-mirror m _ k)

with-surfaces-mirror : {force force' torque torque' : Vec3} {s s' : Aero} {beta beta' : Float} (alpha : Float) → VecRel false force force'
    → VecRel true torque torque' → AeroRel s s' → Rel true beta beta'
    → AeroRel (with_surfaces force torque s alpha beta) (with_surfaces force' torque' s' alpha beta')
unfolding with_surfaces
with-surfaces-mirror alpha h k l b = record { force = add-mirror h l.force; torque = add-mirror k l.torque; alpha = r-same alpha; beta = b }

moving-mirror : {beta beta' : Float} {rates rates' d d' : Vec3} (m : FixedWingModel) (speed : Float) (f : Flow) (w : Wash) (density : Float)
    → Rel true beta beta' → VecRel true rates rates' → VecRel true d d'
    → AeroRel (moving_of m speed f beta rates d w density) (moving_of m speed f beta' rates' d' w density)
unfolding moving_of moving_at
moving-mirror m speed f w density b h k =
    with-surfaces-mirror _ (force-mirror m f (mul-so b (r-same _))) (torque-mirror m speed f w density _ b h) (surfaces-mirror m w _ k) b

still-mirror : {rates rates' d d' : Vec3} (m : FixedWingModel) (w : Wash) (density : Float) → VecRel true rates rates' → VecRel true d d'
    → AeroRel (still_of m rates d w density) (still_of m rates' d' w density)
unfolding still_of
still-mirror m w density h k =
    let s = surfaces-mirror m w zero k in
    record {
      force = s.force;
      torque = add-mirror (add-mirror s.torque (wash-pitch-mirror m w)) (rate-moments-mirror m _ h);
      alpha = s.alpha;
      beta = s.beta;
    }

pub wrench-mirror : {air air' rates rates' deflection deflection' : Vec3} (m : FixedWingModel) (w : Wash) (density : Float) → VecRel false air air'
    → VecRel true rates rates' → VecRel true deflection deflection'
    → AeroRel (aero_wrench m air rates deflection w density) (aero_wrench m air' rates' deflection' w density)
unfolding aero_wrench
wrench-mirror {air} m w density h k l =
    rw (norm-is h, flow-is m density h)
    (by-test AeroRel (lt zero (norm_of air)) (lt zero (norm_of air)) refl
    (λ t. moving-mirror m (norm_of air) (flow_of m air density) w density (sideslip-mirror (norm_of air) h.y) k l)
    (λ n. still-mirror m w density k l))

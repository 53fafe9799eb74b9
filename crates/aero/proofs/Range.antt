-- Where the stall blend's exponents lie, and that alpha and beta are numbers in air whose components are. Assumes nothing.
use Prim.Native.Nat.{ℕ}
use lib.Dec.{T}
use lib.Ieee.{Float, fin, is_nan, le, lt, neg, round}
use lib.Ieee.Scale.{finite}
use lib.IntN.{pos}
use mathlib.Core.Bool.{Bool, cond, false, not, true}
use Rattle.fixed_wing.specs.declared.FixedWingModel.{FixedWingModel}
use Rattle.float.proofs.Interval.{clamp-in}
use Rattle.float.proofs.Order.{finite_number}
use Rattle.float.proofs.Sizes.{div-number, sized-finite}
use Rattle.float.specs.Interval.{Within}
use Rattle.float.specs.Notation.{◌⊘◌, clamp, zero, one}
use Rattle.libm.proofs.Angles.{asin-sized, atan2-sized}
use Rattle.tailsitter_model.specs.declared.Wash.{Wash}
use Rattle.vector.proofs.Range.{VecSized}
use Rattle.vector.specs.Vector.{norm_of}
use Rattle.vector.specs.declared.Vec3.{Vec3}
use Rattle.aero.specs.Coefficients.{sixty}
use Rattle.aero.specs.Wrench.{flow_at, flow_of, moving_at, moving_of, sideslip, still_of, surface_wrench, washed_surfaces, with_surfaces, aero_wrench}
use Rattle.aero.specs.declared.Aero.{Aero}

-- what `expf` is given is from -60 to 60, unless it is a NaN
pub blend-argument : (x : Float) → T (not (is_nan x)) → Within (neg sixty) sixty (clamp (neg sixty) sixty x)
unfolding neg round
blend-argument x n = clamp-in (fin true 15 (pos 2)) sixty x tt tt (unfold le in tt) n

-- ---- the angles: finite, whatever the airframe's numbers, the rates, the wash and the density are
abbrev pub Angles : Aero → Type 0
Angles r = T (finite r.alpha_rad) × T (finite r.beta_rad)

sideslip-finite : (v speed : Float) → T (finite v) → T (lt zero speed) → T (finite (sideslip v speed))
unfolding sideslip
sideslip-finite v speed p q =
    let w : Within (neg one) one (clamp (neg one) one (v ⊘ speed)) = clamp-in (neg one) one (v ⊘ speed) (unfold neg in tt) tt (unfold le neg in tt)
    (div-number v speed p q) in
    sized-finite (asin-sized (clamp (neg one) one (v ⊘ speed)) (record { within = w }))

pub wrench-angles : {n : ℕ} (m : FixedWingModel) (air rates d : Vec3) (w : Wash) (density : Float) → VecSized n air
    → Angles (aero_wrench m air rates d w density)
unfolding aero_wrench moving_of moving_at with_surfaces flow_of flow_at still_of washed_surfaces surface_wrench
wrench-angles m air rates d w density s = go (lt zero (norm_of air)) (λ t. t)
  where
    go : (b : Bool) → (T b → T (lt zero (norm_of air)))
        → Angles (cond b (moving_of m (norm_of air) (flow_of m air density) (sideslip air.y (norm_of air)) rates d w density) (still_of m rates d w density))
    go true h = (
      sized-finite (atan2-sized air.z air.x (sized-finite s.z) (finite_number air.x (sized-finite s.x))),
      sideslip-finite air.y (norm_of air) (sized-finite s.y) (h tt),
    )
    go false h = (tt, tt)

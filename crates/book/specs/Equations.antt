-- Chapter 4 of Small Unmanned Aircraft, by Beard and McLain: the equations that the aerodynamics use, in the book's shape and letters,
-- over any numbers. docs/DIFFERENCES.md names the edition to hold them against. Definitions only.
use Rattle.book.specs.Numbers.{Numbers}

-- ---- what the equations are about
-- an aeroplane: area S, span b, chord c, Oswald's factor e; the stall's sharpness M and angle α0; the coefficients of lift, drag,
-- side force, roll, pitch and yaw
pub record Wing (K : Type 0) : Type 0 where
  pub S : K
  pub b : K
  pub c : K
  pub e : K
  pub M : K
  pub α0 : K
  pub CL0 : K
  pub CLα : K
  pub CDp : K
  pub CYβ : K
  pub CYδr : K
  pub Clβ : K
  pub Clp : K
  pub Clr : K
  pub Clδa : K
  pub Clδr : K
  pub Cm0 : K
  pub Cmα : K
  pub Cmq : K
  pub Cmδe : K
  pub Cnβ : K
  pub Cnp : K
  pub Cnr : K
  pub Cnδr : K

-- the book's other coefficients, which the Rust has not
pub record Others (K : Type 0) : Type 0 where
  pub CLq : K
  pub CLδe : K
  pub CDq : K
  pub CDδe : K
  pub CY0 : K
  pub CYp : K
  pub CYr : K
  pub CYδa : K
  pub Cl0 : K
  pub Cn0 : K
  pub Cnδa : K

-- how it flies: density ρ, airspeed Va, angle of attack α, sideslip β, rates p, q, r, and aileron δa, elevator δe, rudder δr
pub record Motion (K : Type 0) : Type 0 where
  pub ρ : K
  pub Va : K
  pub α : K
  pub β : K
  pub p : K
  pub q : K
  pub r : K
  pub δa : K
  pub δe : K
  pub δr : K

-- forces along body x, y, z (forward, right, down) and the moments of roll, pitch and yaw about them
pub record Wrench (K : Type 0) : Type 0 where
  pub fx : K
  pub fy : K
  pub fz : K
  pub l : K
  pub m : K
  pub n : K

module _ {K : Type 0} (𝓝 : Numbers K) where
  open 𝓝 use {◌+◌, ◌-◌, ◌*◌, ◌/◌, -◌, whole, π, exp, sin, cos, sign}

  infixl 65 ◌+◌
  infixl 65 ◌-◌
  infixl 70 ◌*◌
  infixl 70 ◌/◌
  infix 75 -◌
  infix 80 ◌²
  abbrev ◌² : K → K
  x ² = x * x

  -- ---- the coefficients
  -- the stall blend: σ(α) = (1 + e^(-M(α-α0)) + e^(M(α+α0))) / ((1 + e^(-M(α-α0))) (1 + e^(M(α+α0))))
  unfoldable pub blend : K → K → K → K
  blend M α0 α =
      (whole 1 + exp (- M * (α - α0)) + exp (M * (α + α0)))
      / ((whole 1 + exp (- M * (α - α0))) * (whole 1 + exp (M * (α + α0))))

  -- lift: CL(α) = (1 - σ) (CL0 + CLα α) + σ (2 sign(α) sin²α cos α)
  unfoldable pub lift : K → K → K → K → K
  lift CL0 CLα σ α = (whole 1 - σ) * (CL0 + CLα * α) + σ * (whole 2 * sign α * (sin α) ² * cos α)

  -- the aspect ratio: AR = b² / S
  unfoldable pub aspect : K → K → K
  aspect b S = b ² / S

  -- drag: CD(α) = CDp + (CL0 + CLα α)² / (π e AR)
  unfoldable pub drag : K → K → K → K → K → K → K
  drag CDp CL0 CLα e AR α = CDp + (CL0 + CLα * α) ² / (π * e * AR)

  -- pitch without rate and elevator: Cm0 + Cmα α
  unfoldable pub pitch : K → K → K → K
  pitch Cm0 Cmα α = Cm0 + Cmα * α

  -- the share of a rate ω: C (l/2Va) ω, with l the span for p and r, the chord for q
  unfoldable pub rate : K → K → K → K → K
  rate C l Va ω = C * (l / (whole 2 * Va)) * ω

  -- ---- forces and moments
  -- dynamic pressure times wing area: ½ρVa²S
  unfoldable pub pressure : K → K → K → K
  pressure ρ Va S = whole 1 / whole 2 * ρ * Va ² * S

  module _ (w : Wing K) (o : Others K) (f : Motion K) where
    abbrev Q : K
    Q = pressure f.ρ f.Va w.S

    abbrev CL : K
    CL = lift w.CL0 w.CLα (blend w.M w.α0 f.α) f.α

    abbrev CD : K
    CD = drag w.CDp w.CL0 w.CLα w.e (aspect w.b w.S) f.α

    -- ½ρVa²S [CL(α) + CLq (c/2Va) q + CLδe δe]
    unfoldable pub lift_force : K
    lift_force = Q * (CL + rate o.CLq w.c f.Va f.q + o.CLδe * f.δe)

    -- ½ρVa²S [CD(α) + CDq (c/2Va) q + CDδe δe]
    unfoldable pub drag_force : K
    drag_force = Q * (CD + rate o.CDq w.c f.Va f.q + o.CDδe * f.δe)

    -- ½ρVa²S [CY0 + CYβ β + CYp (b/2Va) p + CYr (b/2Va) r + CYδa δa + CYδr δr]
    unfoldable pub side_force : K
    side_force =
        Q * (o.CY0 + w.CYβ * f.β + rate o.CYp w.b f.Va f.p + rate o.CYr w.b f.Va f.r + o.CYδa * f.δa + w.CYδr * f.δr)

    -- ½ρVa²S b [Cl0 + Clβ β + Clp (b/2Va) p + Clr (b/2Va) r + Clδa δa + Clδr δr]
    unfoldable pub roll_moment : K
    roll_moment =
        Q * w.b
        * (o.Cl0 + w.Clβ * f.β + rate w.Clp w.b f.Va f.p + rate w.Clr w.b f.Va f.r + w.Clδa * f.δa + w.Clδr * f.δr)

    -- ½ρVa²S c [Cm0 + Cmα α + Cmq (c/2Va) q + Cmδe δe]
    unfoldable pub pitch_moment : K
    pitch_moment = Q * w.c * (pitch w.Cm0 w.Cmα f.α + rate w.Cmq w.c f.Va f.q + w.Cmδe * f.δe)

    -- ½ρVa²S b [Cn0 + Cnβ β + Cnp (b/2Va) p + Cnr (b/2Va) r + Cnδa δa + Cnδr δr]
    unfoldable pub yaw_moment : K
    yaw_moment =
        Q * w.b
        * (o.Cn0 + w.Cnβ * f.β + rate w.Cnp w.b f.Va f.p + rate w.Cnr w.b f.Va f.r + o.Cnδa * f.δa + w.Cnδr * f.δr)

    -- lift and drag, given on the axes of the air, turned by α: fx = cos α (-D) - sin α (-L), fz = sin α (-D) + cos α (-L)
    unfoldable pub wrench : Wrench K
    wrench = record {
      fx = cos f.α * (- drag_force) - sin f.α * (- lift_force);
      fy = side_force;
      fz = sin f.α * (- drag_force) + cos f.α * (- lift_force);
      l = roll_moment;
      m = pitch_moment;
      n = yaw_moment;
    }

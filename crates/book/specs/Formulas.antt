-- The formulas of 01, module 6, in the Rust's order of operations, over any numbers. Those that have the book's shape are the book's
-- and do not stand here. Definitions only.
use Rattle.std.specs.Prelude.{Bool, cond}
use Rattle.book.specs.Numbers.{Numbers}

module _ {K : Type 0} (𝓝 : Numbers K) where
  open 𝓝 use {◌+◌, ◌-◌, ◌*◌, ◌/◌, -◌, whole, sign}

  infixl 65 ◌+◌
  infixl 65 ◌-◌
  infixl 70 ◌*◌
  infixl 70 ◌/◌
  infix 75 -◌
  abbrev half : K
  half = whole 1 / whole 2

  -- ---- pressures, times the wing's area S
  -- Q(V) = ½ρV²S
  abbrev pub pressure_area : K → K → K → K
  pressure_area ρ Va S = half * ρ * Va * Va * S

  -- on the surfaces: of the free stream less the share that the stall takes, and of the wash; `floor` is max(.., 0)
  abbrev pub surface_free : K → K → K → K
  surface_free Q share σ = Q * (whole 1 - share * σ)

  abbrev pub surface_pressure : (K → K) → K → K → K → K
  surface_pressure floor free pressure S = floor (free + pressure * S)

  -- ---- coefficients; sα and cα are sin α and cos α
  abbrev pub linear_lift : K → K → K → K
  linear_lift CL0 CLα α = CL0 + CLα * α

  abbrev pub plate_lift : K → K → K → K
  plate_lift α sα cα = whole 2 * sign α * sα * sα * cα

  abbrev pub lift : K → K → K → K → K → K → K
  lift CL0 CLα σ α sα cα = (whole 1 - σ) * linear_lift CL0 CLα α + σ * plate_lift α sα cα

  abbrev pub plate_pressure_drag : K → K
  plate_pressure_drag sα = whole 2 * sα * sα

  abbrev pub plate_drag : K → K → K
  plate_drag CDp sα = CDp + plate_pressure_drag sα

  -- pitch: from the attached flow's to the plate's by a share, unless there is none
  abbrev pub toward_plate : Bool → K → K → K → K
  toward_plate none share attached turned = cond none attached (attached + share * (turned - attached))

  -- ---- forces: lift L at a right angle to (u, w), drag D against it
  abbrev pub blended_drag : K → K → K → K → K
  blended_drag Qs σ attached plate = Qs * (whole 1 - σ) * attached + Qs * σ * plate

  abbrev pub forward : K → K → K → K → K
  forward L D sα cα = L * sα - D * cα

  abbrev pub down : K → K → K → K → K
  down L D sα cα = - L * cα - D * sα

  -- to the side: of a coefficient C under Q, by an angle
  abbrev pub side : K → K → K → K
  side Q C angle = Q * C * angle

  -- ---- moments: the same on an arm l
  abbrev pub moment : K → K → K → K → K
  moment Q l C angle = Q * l * C * angle

  -- of elevator and rudder, still without their pressure
  abbrev pub surface_moment : K → K → K → K
  surface_moment l C angle = l * C * angle

  -- of the wash on the wing, by a pressure
  abbrev pub wash_moment : K → K → K → K
  wash_moment pressure S c = pressure * S * c

  -- of the rates, under the scale z: of p and r on the span, of q on the chord
  abbrev pub two_rates : K → K → K → K → K → K → K
  two_rates z b Cp Cr p r = z * b * b / whole 2 * (Cp * p + Cr * r)

  abbrev pub one_rate : K → K → K → K → K
  one_rate z c Cq q = z * c * c / whole 2 * Cq * q

  -- the wash's scale, ½ρuS by its speed u, and the scale in moving air, Q/V and the wash's
  abbrev pub wash_scale : K → K → K → K
  wash_scale ρ u S = half * ρ * u * S

  abbrev pub rate_scale : K → K → K → K
  rate_scale Q Va wash = Q / Va + wash

-- The whole wrench in moving air, over any numbers, and every place where it is not the book's, by name. docs/DIFFERENCES.md explains
-- each name. Definitions only.
use Rattle.std.specs.Prelude.{Bool, cond, List, [], ◌∷◌, ◌≡◌}
use Rattle.book.specs.Equations as book
use Rattle.book.specs.Equations.{Motion, Others, Wing, Wrench}
use Rattle.book.specs.Formulas as formulas
use Rattle.book.specs.Numbers.{Numbers, held}

-- what the wrench goes by and the book's does not
pub record Besides (K : Type 0) : Type 0 where
  -- how an exponent of the stall blend is held within ±60, and a pressure on the surfaces at 0 or more
  pub hold : K → K
  pub floor : K → K
  -- the speed in the plane of symmetry, √(u² + w²)
  pub Vs : K
  -- what the surfaces lose of the free stream in a full stall, as a share of 1
  pub surface_stall_share : K
  -- a flat plate's pitch coefficient, its share in a full stall, and whether it has none
  pub turned : K
  pub plate_share : K
  pub no_plate : Bool
  -- the wash: its speed in the rate terms; its pressures on the ailerons and on the other surfaces; those of its pitch moments, in any
  -- flow and beyond the stall
  pub wash_speed : K
  pub roll_pressure : K
  pub pressure : K
  pub pitch_pressure : K
  pub stall_pressure : K

module _ {K : Type 0} (𝓝 : Numbers K) where
  open 𝓝 use {◌+◌, ◌-◌, ◌*◌, -◌, whole, sin, cos}

  infixl 65 ◌+◌
  infixl 65 ◌-◌
  infixl 70 ◌*◌
  infix 75 -◌
  -- ---- wrenches added
  abbrev pub nothing : Wrench K
  nothing = record { fx = whole 0; fy = whole 0; fz = whole 0; l = whole 0; m = whole 0; n = whole 0 }

  abbrev pub add : Wrench K → Wrench K → Wrench K
  add v v' = record {
    fx = v.fx + v'.fx;
    fy = v.fy + v'.fy;
    fz = v.fz + v'.fz;
    l = v.l + v'.l;
    m = v.m + v'.m;
    n = v.n + v'.n;
  }

  abbrev pub total : List (Wrench K) → Wrench K
  total [] = nothing
  total (v ∷ vs) = add v (total vs)

  abbrev longitudinal : K → K → K → Wrench K
  longitudinal x z y = record { fx = x; fy = whole 0; fz = z; l = whole 0; m = y; n = whole 0 }

  -- the book's coefficients that the Rust has not are all 0
  abbrev pub no_others : Others K
  no_others = record {
    CLq = whole 0;
    CLδe = whole 0;
    CDq = whole 0;
    CDδe = whole 0;
    CY0 = whole 0;
    CYp = whole 0;
    CYr = whole 0;
    CYδa = whole 0;
    Cl0 = whole 0;
    Cn0 = whole 0;
    Cnδa = whole 0;
  }

  module _ (w : Wing K) (f : Motion K) (x : Besides K) where
    -- the clamp at ±60 leaves both exponents of the stall blend as they are
    pub record Unclamped : Type 0 where
      pub positive : x.hold (- w.M * (f.α - w.α0)) ≡ - w.M * (f.α - w.α0)
      pub negative : x.hold (w.M * (f.α + w.α0)) ≡ w.M * (f.α + w.α0)

    abbrev sα : K
    sα = sin f.α

    abbrev cα : K
    cα = cos f.α

    abbrev σ : K
    σ = book.blend (held x.hold 𝓝) w.M w.α0 f.α

    abbrev Q : K
    Q = formulas.pressure_area 𝓝 f.ρ f.Va w.S

    abbrev Qs : K
    Qs = formulas.pressure_area 𝓝 f.ρ x.Vs w.S

    abbrev CD : K
    CD = book.drag 𝓝 w.CDp w.CL0 w.CLα w.e (book.aspect 𝓝 w.b w.S) f.α

    abbrev plate_cd : K
    plate_cd = formulas.plate_drag 𝓝 w.CDp sα

    abbrev attached : K
    attached = book.pitch 𝓝 w.Cm0 w.Cmα sα

    abbrev share : K
    share = x.plate_share * σ

    abbrev free : K
    free = formulas.surface_free 𝓝 Q x.surface_stall_share σ

    abbrev wash_scale : K
    wash_scale = formulas.wash_scale 𝓝 f.ρ x.wash_speed w.S

    -- ---- the whole, in the Rust's order; its sums of vectors leave a 0 where a vector has none
    abbrev L : K
    L = Qs * formulas.lift 𝓝 w.CL0 w.CLα σ f.α sα cα

    abbrev D : K
    D = formulas.blended_drag 𝓝 Qs σ CD plate_cd

    abbrev R : K
    R = formulas.surface_pressure 𝓝 x.floor free x.roll_pressure w.S

    abbrev E : K
    E = formulas.surface_pressure 𝓝 x.floor free x.pressure w.S

    abbrev z : K
    z = formulas.rate_scale 𝓝 Q f.Va wash_scale

    unfoldable pub wrench : Wrench K
    wrench = record {
      fx = formulas.forward 𝓝 L D sα cα + whole 0;
      fy = formulas.side 𝓝 Q w.CYβ f.β + formulas.side 𝓝 E w.CYδr f.δr;
      fz = formulas.down 𝓝 L D sα cα + whole 0;
      l =
          formulas.moment 𝓝 Q w.b w.Clβ f.β + whole 0 + whole 0
          + formulas.two_rates 𝓝 z w.b w.Clp w.Clr f.p f.r
          + (formulas.moment 𝓝 R w.b w.Clδa f.δa + formulas.surface_moment 𝓝 w.b w.Clδr f.δr * E);
      m =
          Qs * w.c * formulas.toward_plate 𝓝 x.no_plate share attached x.turned
          + formulas.wash_moment 𝓝 x.pitch_pressure w.S w.c
          + formulas.wash_moment 𝓝 x.stall_pressure w.S w.c
          + formulas.one_rate 𝓝 z w.c w.Cmq f.q
          + (whole 0 + formulas.surface_moment 𝓝 w.c w.Cmδe f.δe * E);
      n =
          formulas.moment 𝓝 Q w.b w.Cnβ f.β + whole 0 + whole 0
          + formulas.two_rates 𝓝 z w.b w.Cnp w.Cnr f.p f.r
          + (whole 0 + formulas.surface_moment 𝓝 w.b w.Cnδr f.δr * E);
    }

    -- ---- what it has and the book has not
    -- lift, drag and static pitch go by the pressure of the speed in the plane of symmetry, not of the whole airspeed
    abbrev pub plane_of_symmetry : Wrench K
    plane_of_symmetry =
        let CL = book.lift 𝓝 w.CL0 w.CLα (book.blend 𝓝 w.M w.α0 f.α) f.α in
        longitudinal
        ((Qs - Q) * (sα * CL - cα * CD))
        (- ((Qs - Q) * (cα * CL + sα * CD)))
        ((Qs - Q) * w.c * book.pitch 𝓝 w.Cm0 w.Cmα f.α)

    -- drag is blended into a flat plate's
    abbrev pub plate_drag : Wrench K
    plate_drag = longitudinal (- (Qs * σ * (plate_cd - CD) * cα)) (- (Qs * σ * (plate_cd - CD) * sα)) (whole 0)

    -- the pitch moment goes with sin α for α
    abbrev pub sine_of_alpha : Wrench K
    sine_of_alpha = longitudinal (whole 0) (whole 0) (Qs * w.c * (w.Cmα * (sα - f.α)))

    -- and is blended into a flat plate's
    abbrev pub plate_pitch : Wrench K
    plate_pitch = longitudinal (whole 0) (whole 0) (Qs * w.c * cond x.no_plate (whole 0) (share * (x.turned - attached)))

    -- the surfaces under another pressure than Q: `a` more on the ailerons, `e` more on elevator and rudder
    abbrev surfaces : K → K → Wrench K
    surfaces a e = record {
      fx = whole 0;
      fy = formulas.side 𝓝 e w.CYδr f.δr;
      fz = whole 0;
      l = formulas.moment 𝓝 a w.b w.Clδa f.δa + formulas.moment 𝓝 e w.b w.Clδr f.δr;
      m = formulas.moment 𝓝 e w.c w.Cmδe f.δe;
      n = formulas.moment 𝓝 e w.b w.Cnδr f.δr;
    }

    -- the stall takes a share of the free stream from them
    abbrev pub stalled_surfaces : Wrench K
    stalled_surfaces = surfaces (- (Q * (x.surface_stall_share * σ))) (- (Q * (x.surface_stall_share * σ)))

    -- the wash blows on them
    abbrev pub wash_on_surfaces : Wrench K
    wash_on_surfaces = surfaces (x.roll_pressure * w.S) (x.pressure * w.S)

    -- and what is then below 0 counts as 0
    abbrev pub pressure_floor : Wrench K
    pressure_floor = surfaces (R - (free + x.roll_pressure * w.S)) (E - (free + x.pressure * w.S))

    -- the wash pitches the aeroplane, in any flow and more beyond the stall
    abbrev pub wash_pitch : Wrench K
    wash_pitch =
        longitudinal
        (whole 0)
        (whole 0)
        (formulas.wash_moment 𝓝 x.pitch_pressure w.S w.c + formulas.wash_moment 𝓝 x.stall_pressure w.S w.c)

    -- the wash damps the rates, with a scale of its own beside the free stream's
    abbrev pub wash_rates : Wrench K
    wash_rates = record {
      fx = whole 0;
      fy = whole 0;
      fz = whole 0;
      l = formulas.two_rates 𝓝 wash_scale w.b w.Clp w.Clr f.p f.r;
      m = formulas.one_rate 𝓝 wash_scale w.c w.Cmq f.q;
      n = formulas.two_rates 𝓝 wash_scale w.b w.Cnp w.Cnr f.p f.r;
    }

    abbrev pub departures : List (Wrench K)
    departures =
        plane_of_symmetry ∷ plate_drag ∷ sine_of_alpha ∷ plate_pitch ∷ stalled_surfaces ∷ wash_on_surfaces ∷ pressure_floor ∷ wash_pitch ∷ wash_rates ∷ []

    -- ---- where none of them has a cause: symmetric and attached flow, a small angle of attack, no wash, and no pressure below 0
    pub record Undisturbed : Type 0 where
      pub symmetric : x.Vs ≡ f.Va
      pub attached-flow : σ ≡ whole 0
      pub small-angle : sα ≡ f.α
      pub no-floor : (y : K) → x.floor y ≡ y
      pub no-wash-speed : x.wash_speed ≡ whole 0
      pub no-roll-pressure : x.roll_pressure ≡ whole 0
      pub no-pressure : x.pressure ≡ whole 0
      pub no-pitch-pressure : x.pitch_pressure ≡ whole 0
      pub no-stall-pressure : x.stall_pressure ≡ whole 0

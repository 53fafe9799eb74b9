-- The wrench in moving air is the book's and the departures, and nothing else, in every exact field. Assumes nothing.
use mathlib.Core.Bool.{Bool, cond, false, true}
use mathlib.Core.List.{◌∷◌}
use mathlib.Core.Logic.{◌≢◌}
use mathlib.Core.Path.{◌∙◌, ◌≡◌, ap, refl, sym}
use Rattle.book.proofs.Algebra.{add_neg_cancel, apart, inverse-mul, neg-zero, ring, undone, zeros}
use Rattle.book.specs.Equations as book
use Rattle.book.specs.Equations.{Motion, Wing, Wrench}
use Rattle.book.specs.Numbers.{Field, Functions, Numbers, count, exactly, held}
use Rattle.book.specs.Departures as departs
use Rattle.book.specs.Departures.{Besides, Unclamped, Undisturbed}
use Rattle.book.specs.Formulas as formulas

-- ---- where the clamp does not act the blend is the book's, in any numbers
module _ {K : Type 0} (𝓝 : Numbers K) where
  open 𝓝 use {◌+◌, ◌-◌, ◌*◌, ◌/◌, -◌, whole, exp}

  infixl 65 ◌+◌
  infixl 65 ◌-◌
  infixl 70 ◌*◌
  infixl 70 ◌/◌
  infix 75 -◌
  pub blend-held : (hold : K → K) (M α0 α : K) → hold (- M * (α - α0)) ≡ - M * (α - α0) → hold (M * (α + α0)) ≡ M * (α + α0)
      → book.blend (held hold 𝓝) M α0 α ≡ book.blend 𝓝 M α0 α
  unfolding book.blend
  blend-held hold M α0 α h k =
      let by : K → K → K = λ s t. (whole 1 + exp s + exp t) / ((whole 1 + exp s) * (whole 1 + exp t)) in
      ap (λ s. by s (hold (M * (α + α0)))) h ∙ ap (by (- M * (α - α0))) k

  pub unclamped : (w : Wing K) (f : Motion K) (x : Besides K) → Unclamped 𝓝 w f x
      → book.blend (held x.hold 𝓝) w.M w.α0 f.α ≡ book.blend 𝓝 w.M w.α0 f.α
  unclamped w f x h = blend-held x.hold w.M w.α0 f.α h.positive h.negative

module _ {K : Type 0} (𝓕 : Field K) (functions : Functions K) where
  abbrev 𝓝 : Numbers K
  𝓝 = exactly 𝓕 functions

  open 𝓕.ring use {add as ◌+◌, mul as ◌*◌, zero as 𝟘, neg as -◌}

  infixl 65 ◌+◌
  infixl 70 ◌*◌
  infix 75 -◌
  cond_same : (b : Bool) (y : K) → cond b y y ≡ y
  cond_same true y = refl
  cond_same false y = refl

  none_is : 𝓝.whole 0 ≡ 𝟘
  unfolding count
  none_is = refl

  -- ---- lift: sin²α as two products
  pub lift-exact : (CL0 CLα σ α : K) → formulas.lift 𝓝 CL0 CLα σ α (𝓝.sin α) (𝓝.cos α) ≡ book.lift 𝓝 CL0 CLα σ α
  unfolding book.lift
  lift-exact CL0 CLα σ α = simp ring

  -- ---- pressure: V² as two products
  pub pressure-exact : (ρ Va S : K) → formulas.pressure_area 𝓝 ρ Va S ≡ book.pressure 𝓝 ρ Va S
  unfolding book.pressure
  pressure-exact ρ Va S = simp ring

  -- ---- the rate terms: ½ρV²S/V is ½ρVS, and the wash's speed u is added to the airspeed
  module _ (ρ Va S u : K) (moves : Va ≢ 𝟘) where
    abbrev scale : K
    scale = formulas.rate_scale 𝓝 (formulas.pressure_area 𝓝 ρ Va S) Va (formulas.wash_scale 𝓝 ρ u S)

    pub scale-exact : scale ≡ formulas.wash_scale 𝓝 ρ Va S + formulas.wash_scale 𝓝 ρ u S
    scale-exact = rw (undone 𝓕 Va (formulas.wash_scale 𝓝 ρ Va S) moves) (simp ring)

    pub two-rates-exact : (b Cp Cr p r : K)
        → formulas.two_rates 𝓝 scale b Cp Cr p r
        ≡ book.pressure 𝓝 ρ Va S * b * (book.rate 𝓝 Cp b Va p + book.rate 𝓝 Cr b Va r) + formulas.two_rates 𝓝 (formulas.wash_scale 𝓝 ρ u S) b Cp Cr p r
    unfolding book.pressure book.rate
    two-rates-exact b Cp Cr p r = simp (ring, inverse-mul, 𝓕.two-not-zero)

    pub one-rate-exact : (c Cq q : K)
        → formulas.one_rate 𝓝 scale c Cq q
        ≡ book.pressure 𝓝 ρ Va S * c * book.rate 𝓝 Cq c Va q + formulas.one_rate 𝓝 (formulas.wash_scale 𝓝 ρ u S) c Cq q
    unfolding book.pressure book.rate
    one-rate-exact c Cq q = simp (ring, inverse-mul, 𝓕.two-not-zero)

  -- ---- a pressure on the surfaces: the free stream's, less what the stall takes, and the wash's, and what the floor adds
  surface-apart : (floor : K → K) (Q share σ p S : K)
      → formulas.surface_pressure 𝓝 floor (formulas.surface_free 𝓝 Q share σ) p S
      ≡ Q
      + (- (Q * (share * σ))
      + (p * S + (formulas.surface_pressure 𝓝 floor (formulas.surface_free 𝓝 Q share σ) p S + - (formulas.surface_free 𝓝 Q share σ + p * S))))
  unfolding count
  surface-apart floor Q share σ p S = go (apart 𝓕 (formulas.surface_free 𝓝 Q share σ + p * S) _)
    where
      go : {E t : K} → formulas.surface_free 𝓝 Q share σ + p * S + t ≡ E → E ≡ Q + (- (Q * (share * σ)) + (p * S + t))
      go h = rw (← h) (simp ring)

  -- ---- the pitch coefficient: sin α for α, and a share of the plate's
  sine-is : (Cm0 Cmα α : K) → book.pitch 𝓝 Cm0 Cmα (𝓝.sin α) ≡ book.pitch 𝓝 Cm0 Cmα α + Cmα * (𝓝.sin α + - α)
  unfolding book.pitch
  sine-is Cm0 Cmα α = go (sym (apart 𝓕 α (𝓝.sin α)))
    where
      go : {s t : K} → s ≡ α + t → Cm0 + Cmα * s ≡ Cm0 + Cmα * α + Cmα * t
      go h = rw h (simp ring)

  plate-is : (none : Bool) (share attached turned : K)
      → formulas.toward_plate 𝓝 none share attached turned ≡ attached + cond none 𝟘 (share * (turned + - attached))
  plate-is true share attached turned = simp zeros
  plate-is false share attached turned = refl

  -- ---- the six sums, with their parts as variables; d is Qs - Q, and i, j, k are what a surface's pressure has over Q
  forward-is : {Q Q' Qs d CL CL' CD plate σ sα cα : K} → Q' ≡ Q → CL' ≡ CL → Qs ≡ Q + d
      → formulas.forward 𝓝 (Qs * CL') (formulas.blended_drag 𝓝 Qs σ CD plate) sα cα
      ≡ cα * (- (Q' * CD)) + - (sα * (- (Q' * CL))) + (d * (sα * CL + - (cα * CD)) + - (Qs * σ * (plate + - CD) * cα))
  unfolding count
  forward-is h k e = rw (h, k, e) (simp ring)

  down_is : {Q Q' Qs d CL CL' CD plate σ sα cα : K} → Q' ≡ Q → CL' ≡ CL → Qs ≡ Q + d
      → formulas.down 𝓝 (Qs * CL') (formulas.blended_drag 𝓝 Qs σ CD plate) sα cα
      ≡ sα * (- (Q' * CD)) + cα * (- (Q' * CL)) + (- (d * (cα * CL + sα * CD)) + - (Qs * σ * (plate + - CD) * sα))
  unfolding count
  down_is h k e = rw (h, k, e) (simp ring)

  side-is : {Q Q' E i j k Cβ β C δ : K} → Q' ≡ Q → E ≡ Q + (i + (j + k))
      → Q * Cβ * β + E * C * δ ≡ Q' * (Cβ * β + C * δ) + (i * C * δ + (j * C * δ + k * C * δ))
  side-is h e = rw (h, e) (simp ring)

  lateral-is : {Q Q' R E i j k i' j' k' b Cβ β Ca δa C δ rates rate rate' wash : K} → Q' ≡ Q → R ≡ Q + (i + (j + k)) → E ≡ Q + (i' + (j' + k'))
      → rates ≡ Q' * b * (rate + rate') + wash
      → formulas.moment 𝓝 Q b Cβ β + rates + (formulas.moment 𝓝 R b Ca δa + b * C * δ * E)
      ≡ Q' * b * (Cβ * β + rate + rate' + Ca * δa + C * δ)
      + (i * b * Ca * δa + i' * b * C * δ + (j * b * Ca * δa + j' * b * C * δ + (k * b * Ca * δa + k' * b * C * δ + wash)))
  lateral-is h e f g = rw (g, h, e, f) (simp ring)

  pitch-is : {Q Q' Qs d E i j k c static attached sine Cm plate δe C rates rate wash moment moment' : K} → Q' ≡ Q → Qs ≡ Q + d → E ≡ Q + (i + (j + k))
      → attached ≡ static + sine → Cm ≡ attached + plate → rates ≡ Q' * c * rate + wash
      → Qs * c * Cm + moment + moment' + rates + c * C * δe * E
      ≡ Q' * c * (static + rate + C * δe)
      + (d * c * static + (Qs * c * sine + (Qs * c * plate + (i * c * C * δe + (j * c * C * δe + (k * c * C * δe + (moment + moment' + wash)))))))
  pitch-is h e f s p g = rw (g, p, s, h, e, f) (simp ring)

  -- ---- the whole wrench: the book's, and the departures
  module _ (w : Wing K) (f : Motion K) (x : Besides K) (moves : f.Va ≢ 𝟘) (free : Unclamped 𝓝 w f x) where
    abbrev ours : Wrench K
    ours = departs.wrench 𝓝 w f x

    abbrev theirs : Wrench K
    theirs = book.wrench 𝓝 w (departs.no_others 𝓝) f

    abbrev both : Wrench K
    both = departs.total 𝓝 (theirs ∷ departs.departures 𝓝 w f x)

    abbrev Q : K
    Q = formulas.pressure_area 𝓝 f.ρ f.Va w.S

    abbrev Qs : K
    Qs = formulas.pressure_area 𝓝 f.ρ x.Vs w.S

    abbrev σ : K
    σ = book.blend (held x.hold 𝓝) w.M w.α0 f.α

    pressure-is : book.pressure 𝓝 f.ρ f.Va w.S ≡ Q
    pressure-is = sym (pressure-exact _ _ _)

    lift-is : formulas.lift 𝓝 w.CL0 w.CLα σ f.α (𝓝.sin f.α) (𝓝.cos f.α)
        ≡ book.lift 𝓝 w.CL0 w.CLα (book.blend 𝓝 w.M w.α0 f.α) f.α
    lift-is = lift-exact _ _ _ _ ∙ ap (λ s. book.lift 𝓝 w.CL0 w.CLα s f.α) (unclamped 𝓝 w f x free)

    fx-is : ours.fx ≡ both.fx
    unfolding departs.wrench book.wrench book.lift_force book.drag_force book.rate
    fx-is = simp (none_is, zeros) (forward-is pressure-is lift-is (sym (apart 𝓕 Q Qs)))

    fz-is : ours.fz ≡ both.fz
    unfolding departs.wrench book.wrench book.lift_force book.drag_force book.rate
    fz-is = simp (none_is, zeros) (down_is pressure-is lift-is (sym (apart 𝓕 Q Qs)))

    fy-is : ours.fy ≡ both.fy
    unfolding departs.wrench book.wrench book.side_force book.rate
    fy-is = simp (none_is, zeros) (side-is pressure-is (surface-apart x.floor Q x.surface_stall_share σ x.pressure w.S))

    l-is : ours.l ≡ both.l
    unfolding departs.wrench book.wrench book.roll_moment
    l-is =
        simp (none_is, zeros)
        (lateral-is pressure-is
        (surface-apart x.floor Q x.surface_stall_share σ x.roll_pressure w.S)
        (surface-apart x.floor Q x.surface_stall_share σ x.pressure w.S)
        (two-rates-exact f.ρ f.Va w.S x.wash_speed moves w.b w.Clp w.Clr f.p f.r))

    -- roll without an aileron
    n-is : ours.n ≡ both.n
    unfolding departs.wrench book.wrench book.yaw_moment
    n-is =
        simp (none_is, zeros)
        (simp zeros at
        (lateral-is {Cβ = w.Cnβ} {β = f.β} {Ca = 𝟘} {δa = 𝟘} {C = w.Cnδr} {δ = f.δr} pressure-is
        (surface-apart x.floor Q x.surface_stall_share σ x.roll_pressure w.S)
        (surface-apart x.floor Q x.surface_stall_share σ x.pressure w.S)
        (two-rates-exact f.ρ f.Va w.S x.wash_speed moves w.b w.Cnp w.Cnr f.p f.r)))

    m-is : ours.m ≡ both.m
    unfolding departs.wrench book.wrench book.pitch_moment
    m-is =
        simp (none_is, zeros)
        (pitch-is pressure-is (sym (apart 𝓕 Q Qs))
        (surface-apart x.floor Q x.surface_stall_share σ x.pressure w.S)
        (sine-is _ _ _)
        (plate-is x.no_plate _ _ _)
        (one-rate-exact f.ρ f.Va w.S x.wash_speed moves w.c w.Cmq f.q))

    -- the statement: nothing else is in it
    pub by-the-book : departs.wrench 𝓝 w f x ≡ departs.total 𝓝 (book.wrench 𝓝 w (departs.no_others 𝓝) f ∷ departs.departures 𝓝 w f x)
    unfolding departs.wrench
    by-the-book = λ i. record { fx = fx-is i; fy = fy-is i; fz = fz-is i; l = l-is i; m = m-is i; n = n-is i }

    -- and where no departure has a cause it is the book's alone
    pub undisturbed : Undisturbed 𝓝 w f x → departs.wrench 𝓝 w f x ≡ book.wrench 𝓝 w (departs.no_others 𝓝) f
    undisturbed u =
        by-the-book
        ∙ simp (
          none_is,
          u.symmetric,
          u.attached-flow,
          u.small-angle,
          u.no-floor,
          u.no-wash-speed,
          u.no-roll-pressure,
          u.no-pressure,
          u.no-pitch-pressure,
          u.no-stall-pressure,
          zeros,
          add_neg_cancel,
          neg-zero,
          cond_same,
        )

-- The wind (02, 1): an unusable one is refused, with the state kept and zeros reported; and in every accepted tick the air's
-- velocity has no component that is a NaN, so that alpha and
-- beta are numbers. Assumes nothing.
use Rattle.std.specs.Prelude.{Err}
use borrow.Author.Tests.{eqb-true}
use lib.Dec.{T}
use lib.Ieee.{add, le, round}
use lib.Ieee.Scale.{finite}
use mathlib.Core.Bool.{false, true, true≢false}
use mathlib.Core.Path.{◌∙◌, ◌≡◌, refl, sym}
use Rattle.aero.proofs.Range.{wrench-angles}
use Rattle.airframe.specs.Acceptance.{refused_place}
use Rattle.airframe.specs.declared.Airframe.{Airframe}
use Rattle.answers.specs.Answers.{number_of}
use Rattle.answers.specs.declared.Refusal.{Refusal}
use Rattle.answers.specs.declared.Refusal.TheVariants.{WindUnusable}
use Rattle.body.specs.Motion.{air_velocity}
use Rattle.flight.proofs.Range.{norm-within, velocity-within}
use Rattle.flight.specs.Envelope.{is_inside, max_norm, outside_of}
use Rattle.flight.specs.State.{body_of}
use Rattle.flight.specs.declared.Flight.{Flight}
use Rattle.flight.specs.declared.Tick.{Tick}
use Rattle.float.proofs.Sizes.{two_to}
use Rattle.float.specs.Interval.{inside}
use Rattle.lag.specs.Lag.{step_least, step_most}
use Rattle.vector.proofs.Range.{VecSized, inverse-rotate-sized, norm-sized, sub-sized, vec-within, within-sized}
use Rattle.vector.specs.declared.Vec3.{Vec3}
use Rattle.wing.proofs.Passed.{tick-cases, passed}
use Rattle.wing.specs.Loads.{aero_of, air_of, loaded_by, loads_of, loads_under}
use Rattle.wing.specs.Tick.{accepted_tick, loads_in, next_of, next_with, refused_of, stepped_of, tick_of, tick_with, wind_most, wind_usable}
use Rattle.wing.specs.declared.Report.{Report}
use Rattle.wing.specs.declared.TickResult.{TickResult}

-- ---- an unusable wind: 10, where 6, 7 and 8 have nothing to say
pub wind-refused : (a : Airframe) (f : Flight) (t : Tick) → refused_place a ≡ 0 → is_inside f ≡ true → inside step_least step_most t.step_s ≡ true
    → wind_usable t.wind_ned_mps ≡ false → tick_of a f t ≡ refused_of (Err WindUnusable) f
unfolding tick_of tick_with accepted_tick
wind-refused a f t p s h w = rw (p, s, h, w)

-- and never an accepted tick: the state as given, and zeros
pub unusable-refused : (a : Airframe) (f : Flight) (t : Tick) → wind_usable t.wind_ned_mps ≡ false
    → (x : Refusal) × (tick_of a f t ≡ refused_of (Err x) f)
unfolding refused_of
unusable-refused a f t w =
    tick-cases (λ (k : TickResult). (x : Refusal) × (k ≡ refused_of (Err x) f)) a f t (λ x. (x, refl)) (λ p. absurd (true≢false (sym p.wind ∙ w)))

-- ---- the air's velocity on body axes, from a state inside the envelope: at most 2 ^ 18 m/s in size, so a number
pub air-sized : (f : Flight) (wind : Vec3) → is_inside f ≡ true → wind_usable wind ≡ true → VecSized 18 (air_of (body_of f) wind)
unfolding air_of air_velocity is_inside wind_usable
air-sized f wind i u =
    let e : outside_of f ≡ 0 = eqb-true _ _ i in
    let small : T (le (two_to 2) max_norm) → ⊥ = λ h. absurd (unfold le round in h) in
    inverse-rotate-sized (body_of f).attitude (norm-sized (body_of f).attitude max_norm small (norm-within f e).at_most)
    (sub-sized 11 (within-sized 10 (velocity-within f e) (unfold le round in tt))
    (within-sized 8 (vec-within wind_most wind u) (unfold le round in tt)) (unfold le add round in tt))

pub accepted-air : (a : Airframe) (f : Flight) (t : Tick) → number_of (tick_of a f t).report.answer ≡ 0 → VecSized 18 (air_of (body_of f) t.wind_ned_mps)
accepted-air a f t e = let p = passed a f t e in air-sized f t.wind_ned_mps p.state p.wind

-- ---- and so are the angles that a tick reports, refused or not
abbrev pub Angles : Report → Type 0
Angles r = T (finite r.alpha_rad) × T (finite r.beta_rad)

next-angles : (a : Airframe) (f : Flight) (t : Tick) → is_inside f ≡ true → wind_usable t.wind_ned_mps ≡ true → Angles (next_of a f t).report
unfolding next_with loads_in stepped_of loads_of loads_under loaded_by aero_of
next-angles a f t i u = wrench-angles _ _ _ _ _ _ (air-sized f t.wind_ned_mps i u)

pub tick-angles : (a : Airframe) (f : Flight) (t : Tick) → Angles (tick_of a f t).report
unfolding refused_of
tick-angles a f t = tick-cases (λ (k : TickResult). Angles k.report) a f t (λ x. (tt, tt)) (λ p. next-angles a f t p.state p.wind)

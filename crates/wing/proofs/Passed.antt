-- A tick is a refusal or, where every test passes, the next state: what holds of each refusal and of such a next state holds of every tick. Assumes nothing.
use Rattle.std.specs.Prelude.{Err}
use borrow.Author.Tests.{eqb-true}
use lib.Dec.{eqb}
use mathlib.Core.Bool.{true}
use mathlib.Core.Path.{◌≡◌}
use Rattle.airframe.specs.Acceptance.{refused_place}
use Rattle.airframe.specs.declared.Airframe.{Airframe}
use Rattle.answers.proofs.Numbers.{refusal-not-0}
use Rattle.answers.specs.Answers.{number_of}
use Rattle.answers.specs.declared.Refusal.{Refusal}
use Rattle.answers.specs.declared.Refusal.TheVariants.{Departure, NumberOutOfRange, StateOutside, StepOutside, WindUnusable}
use Rattle.flight.specs.Envelope.{is_inside}
use Rattle.flight.specs.declared.Flight.{Flight}
use Rattle.flight.specs.declared.Tick.{Tick}
use Rattle.float.proofs.Tests.{by_cases}
use Rattle.float.specs.Interval.{inside}
use Rattle.lag.specs.Lag.{step_least, step_most}
use Rattle.wing.specs.Tick.{accepted_tick, next_of, refused_of, tick_of, tick_with, unless_departed, wind_usable}
use Rattle.wing.specs.declared.TickResult.{TickResult}

-- a test a line, in their order
pub record Passed (a : Airframe) (f : Flight) (t : Tick) : Type 0 where
  pub airframe : refused_place a ≡ 0
  pub state : is_inside f ≡ true
  pub step : inside step_least step_most t.step_s ≡ true
  pub wind : wind_usable t.wind_ned_mps ≡ true
  pub next : is_inside (next_of a f t).flight ≡ true

pub tick-cases : (P : TickResult → Type 0) (a : Airframe) (f : Flight) (t : Tick) → ((x : Refusal) → P (refused_of (Err x) f))
    → (Passed a f t → P (next_of a f t)) → P (tick_of a f t)
unfolding tick_of tick_with accepted_tick unless_departed
tick-cases P a f t refused next =
    by_cases P (eqb (refused_place a) 0)
    (λ p. by_cases P (is_inside f)
    (λ s. by_cases P (inside step_least step_most t.step_s)
    (λ h. by_cases P (wind_usable t.wind_ned_mps)
    (λ w. by_cases P (is_inside (next_of a f t).flight) (λ n. next (record { airframe = eqb-true _ _ p; state = s; step = h; wind = w; next = n }))
    (refused Departure))
    (refused WindUnusable))
    (refused StepOutside))
    (refused StateOutside))
    (refused (NumberOutOfRange (refused_place a)))

-- so a tick that answers 0 has passed
pub passed : (a : Airframe) (f : Flight) (t : Tick) → number_of (tick_of a f t).report.answer ≡ 0 → Passed a f t
unfolding refused_of
passed a f t = tick-cases (λ (k : TickResult). number_of k.report.answer ≡ 0 → Passed a f t) a f t (λ x e. absurd (refusal-not-0 x e)) (λ p e. p)

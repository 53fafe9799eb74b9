-- A run over a trace's ticks: what an iteration of its loop keeps, which ticks leave a run as it was, and the ticks reflected. Assumes nothing.
use Prim.Native.Nat.{◌%◌, ◌+◌, ℕ}
use lib.Dec.{eqb}
use mathlib.Core.Bool.{cond, false, true, true≢false}
use mathlib.Core.List.{List, [], ◌∷◌, map}
use mathlib.Core.Path.{◌∙◌, ◌≡◌, ap, ap₂, refl, sym}
use native.Mathlib.Nat.{add-zero}
use Rattle.airframe.specs.Acceptance.{refused_place}
use Rattle.airframe.specs.declared.Airframe.{Airframe}
use Rattle.answers.proofs.Numbers.{refused-not-done}
use Rattle.answers.specs.declared.Refusal.{Refusal}
use Rattle.answers.specs.declared.Refusal.TheVariants.{WrongLength}
use Rattle.std.specs.Prelude.{Err}
use Rattle.answers.specs.Answers.{done}
use Rattle.flight.specs.Envelope.{is_inside}
use Rattle.flight.specs.Reflection.{reflect_tick}
use Rattle.flight.specs.declared.Flight.{Flight}
use Rattle.flight.specs.declared.Tick.{Tick}
use Rattle.trace.proofs.Reflection.{Bytes, reflected-length, reflected-ticks}
use Rattle.trace.specs.Reflection.{reflect_trace}
use Rattle.trace.specs.Tick.{tick_bytes}
use Rattle.trace.specs.Trace.{ticks_of}
use Rattle.wing.proofs.Passed.{Passed, tick-cases}
use Rattle.wing.specs.Tick.{refused_of, tick_of, wind_usable}
use Rattle.wing.specs.declared.TickResult.{TickResult}
use Rattle.run.specs.Run.{Progress, ended, one_if_done, progressed, run_result_of, run_result_over, run_from, run_of}

-- a tick that cannot pass every test leaves state and count
stays : (a : Airframe) (p : Progress) (t : Tick) → (Passed a p.flight t → ⊥) → progressed a p t ≡ p
unfolding progressed refused_of one_if_done
stays a p t fails = tick-cases After a p.flight t (λ x. refused x) (λ q. absurd (fails q))
  where
    After : TickResult → Type 0
    After k = ◌≡◌ {A = Progress} (record { flight = k.flight; accepted = p.accepted + one_if_done k.report.answer }) p

    refused : (x : Refusal) → After (refused_of (Err x) p.flight)
    refused x = rw (refused-not-done x, add-zero)

stays_all : (a : Airframe) (p : Progress) (ts : List Tick) → ((t : Tick) → Passed a p.flight t → ⊥) → run_from a p ts ≡ p
unfolding run_from
stays_all a p [] fails = refl
stays_all a p (t ∷ ts) fails = ap (λ (q : Progress). run_from a q ts) (stays a p t (fails t)) ∙ stays_all a p ts fails

-- so it is of a refused airframe, from a state outside the envelope, and in an unusable wind (02, 1)
pub refused-run : (a : Airframe) (p : Progress) (ts : List Tick) → (refused_place a ≡ 0 → ⊥) → run_from a p ts ≡ p
refused-run a p ts n = stays_all a p ts (λ t q. n q.airframe)

pub outside-run : (a : Airframe) (p : Progress) (ts : List Tick) → is_inside p.flight ≡ false → run_from a p ts ≡ p
outside-run a p ts o = stays_all a p ts (λ t q. true≢false (sym q.state ∙ o))

pub wind-stays : (a : Airframe) (p : Progress) (t : Tick) → wind_usable t.wind_ned_mps ≡ false → progressed a p t ≡ p
wind-stays a p t w = stays a p t (λ q. true≢false (sym q.wind ∙ w))

-- a state inside the envelope is followed by one inside: itself, or one that passed test 9
pub stays-inside : (a : Airframe) (f : Flight) (t : Tick) → is_inside f ≡ true → is_inside (tick_of a f t).flight ≡ true
unfolding refused_of
stays-inside a f t i = tick-cases (λ (k : TickResult). is_inside k.flight ≡ true) a f t (λ x. i) (λ p. p.next)

-- what an iteration of the loop keeps is the run's progress
pub progress : (a : Airframe) (p : Progress) (t u : Tick) (k : TickResult) (n : ℕ) → u ≡ t → k ≡ tick_of a p.flight u → n ≡ one_if_done k.report.answer
    → ◌≡◌ {A = Progress} (record { flight = k.flight; accepted = p.accepted + n }) (progressed a p t)
unfolding progressed
progress a p t u k n h g m =
    let q : k ≡ tick_of a p.flight t = g ∙ ap (tick_of a p.flight) h in
    ap₂ (λ (x : TickResult) (j : ℕ). record { flight = x.flight; accepted = p.accepted + j }) q (m ∙ ap (λ (x : TickResult). one_if_done x.report.answer) q)

-- the run over the reflected bytes is the run over the reflected ticks
pub reflected-run : (a : Airframe) (f : Flight) (s : List ℕ) → Bytes s → run_result_of a f (reflect_trace s) ≡ run_result_over a f s (map reflect_tick (ticks_of s))
unfolding run_result_of run_result_over
reflected-run a f s h =
    ap₂
    (λ (n : ℕ) (ts : List Tick). cond (eqb (n % tick_bytes) 0) (ended done (run_of a f ts).flight (run_of a f ts).accepted) (ended (Err WrongLength) f 0))
    (reflected-length s)
    (reflected-ticks s h)

-- What no tick alters no run alters, accepted or not: every call hands back that of the start, and so do calls by value one after
-- another and the run called once. Said of the thrust scales (02, 2) and, without lift numbers, of the lift rotors' values (02, 5).
-- Assumes nothing.
use Prim.Native.Nat.{ℕ}
use lib.Ieee.{Float}
use mathlib.Core.Bool.{Bool, cond, false, true}
use mathlib.Core.List.{List, [], ◌∷◌}
use mathlib.Core.Path.{◌∙◌, ◌≡◌, ap, refl}
use Rattle.airframe.specs.declared.Airframe.{Airframe}
use Rattle.answers.specs.declared.Refusal.TheVariants.{WrongLength}
use Rattle.std.specs.Prelude.{Err}
use Rattle.answers.specs.Answers.{done}
use Rattle.flight.specs.declared.Flight.{Flight}
use Rattle.flight.specs.declared.Tick.{Tick}
use Rattle.trace.specs.Trace.{is_whole, ticks_of}
use Rattle.wing.proofs.Lift.{lift-stays}
use Rattle.wing.proofs.Scales.{scale-stays}
use Rattle.wing.specs.Tick.{tick_of}
use Rattle.wing.specs.declared.TickResult.{TickResult}
use Rattle.run.proofs.Calls.{all-calls, lent-flown, value-flown}
use Rattle.run.specs.Calls.{Chain, LentCall, ValueCall}
use Rattle.run.specs.Mirrored.{All}
use Rattle.run.specs.Run.{Progress, Told, calls_of, ended, progressed, run_result_of, run_result_over, run_from, run_of}

-- a part of the state that no tick alters
abbrev pub Stays : Airframe → (Flight → List Float) → Type 0
Stays a part = (f : Flight) (t : Tick) → part (tick_of a f t).flight ≡ part f

module _ (a : Airframe) (part : Flight → List Float) (stays : Stays a part) where
  abbrev Kept : Flight → Flight → Type 0
  Kept f g = part g ≡ part f

  pub calls-keep : (f : Flight) (ts : List Tick) → All (λ (k : Told). Kept f k.state) (calls_of a f ts)
  calls-keep f ts = all-calls (Kept f) (λ (k : Told). Kept f k.state) a (λ g t e. let n = stays g t ∙ e in (n, n)) f ts refl

  run-from : (p : Progress) (ts : List Tick) → Kept p.flight (run_from a p ts).flight
  unfolding run_from progressed
  run-from p [] = refl
  run-from p (t ∷ ts) = run-from (progressed a p t) ts ∙ stays p.flight t

  pub run-keeps : (f : Flight) (ts : List Tick) → Kept f (run_of a f ts).flight
  unfolding run_of
  run-keeps f ts = run-from (record { flight = f; accepted = 0 }) ts

  -- calls by value and over a lent record, and the run over a trace's bytes, whole ticks or not
  pub value_keeps : {f h : Flight} {ts : List Tick} {ks : List TickResult} → Chain (ValueCall a) f ts ks h → Kept f h
  value_keeps {f} {h} {ts} {ks} r = ap part (value-flown a r).end ∙ run-keeps f ts

  pub lent-keeps : {f h : Flight} {ts : List Tick} {ks : List TickResult} → Chain (LentCall a) f ts ks h → Kept f h
  lent-keeps {f} {h} {ts} {ks} r = ap part (lent-flown a r).end ∙ run-keeps f ts

  pub ran-keeps : (f : Flight) (s : List ℕ) → Kept f (run_result_of a f s).flight
  unfolding run_result_of run_result_over ended
  ran-keeps f s = go (is_whole s)
    where
      go : (w : Bool) → Kept f (cond w (ended done (run_of a f (ticks_of s)).flight (run_of a f (ticks_of s)).accepted) (ended (Err WrongLength) f 0)).flight
      go true = run-keeps f (ticks_of s)
      go false = refl

-- the two parts
abbrev pub scales : Flight → List Float
scales f = f.thrust_scale

pub scales-stay : (a : Airframe) → Stays a scales
scales-stay a = scale-stays a

abbrev pub rotors : Flight → List Float
rotors f = f.lift_motors

pub rotors-stay : (a : Airframe) → a.lift_present ≡ false → Stays a rotors
rotors-stay a p = lift-stays a p

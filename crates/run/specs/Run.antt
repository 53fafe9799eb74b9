-- 01, "A run by demand 2's definition": ticks one by one, always with the same airframe; a tick starts from what the tick before
-- it handed back, after a refusal too. Definitions only.
use Rattle.std.specs.Prelude.{Err, ◌+◌, ℕ, eqb, Float, cond}
use mathlib.Core.List.{List, [], ◌∷◌, foldl}
use Rattle.airframe.specs.declared.Airframe.{Airframe}
use Rattle.answers.specs.Answers.{is_done, number_of, place_of}
use Rattle.answers.specs.Answers.{Answer}
use Rattle.answers.specs.declared.Refusal.TheVariants.{WrongLength}
use Rattle.answers.specs.Answers.{done}
use Rattle.flight.specs.declared.Flight.{Flight}
use Rattle.flight.specs.declared.Tick.{Tick}
use Rattle.trace.specs.Trace.{is_whole, ticks_of}
use Rattle.wing.specs.Tick.{tick_of}
use Rattle.wing.specs.declared.TickResult.{TickResult}
use Rattle.run.specs.declared.RunResult.{RunResult}

-- ---- over a list of ticks
pub record Progress : Type 0 where
  pub flight : Flight
  pub accepted : ℕ

-- a tick is accepted if it answers 0
unfoldable pub one_if_done : Answer → ℕ
one_if_done x = cond (is_done x) 1 0

-- a refusal keeps state and count; else the next state takes the place of the state, and the count goes up by 1
unfoldable pub progressed : Airframe → Progress → Tick → Progress
progressed a p t = record {
  flight = (tick_of a p.flight t).flight;
  accepted = p.accepted + one_if_done (tick_of a p.flight t).report.answer;
}

-- one tick after the other
unfoldable pub run_from : Airframe → Progress → List Tick → Progress
run_from a p ts = foldl (progressed a) p ts

-- at first the given state and 0
unfoldable pub run_of : Airframe → Flight → List Tick → Progress
run_of a f ts = run_from a (record { flight = f; accepted = 0 }) ts

-- ---- call by call

-- what a tick call tells its caller, whatever its form: the answer's number and its place, the report, and the state handed back
pub record Told : Type 0 where
  pub answer : ℕ
  pub place : ℕ
  pub alpha : Float
  pub beta : Float
  pub thrust : Float
  pub state : Flight

abbrev pub told_by : TickResult → Told
told_by k = record {
  answer = number_of k.report.answer;
  place = place_of k.report.answer;
  alpha = k.report.alpha_rad;
  beta = k.report.beta_rad;
  thrust = k.report.thrust_n;
  state = k.flight;
}

-- what each call tells, in order
unfoldable pub calls_of : Airframe → Flight → List Tick → List Told
calls_of a f [] = []
calls_of a f (t ∷ ts) = told_by (tick_of a f t) ∷ calls_of a (tick_of a f t).flight ts

-- how many of the calls answered 0
unfoldable pub accepted_in : List Told → ℕ
accepted_in [] = 0
accepted_in (k ∷ ks) = cond (eqb k.answer 0) 1 0 + accepted_in ks

-- ---- over a trace's bytes

-- what a run hands back
unfoldable pub ended : Answer → Flight → ℕ → RunResult
ended x f n = record { answer = x; flight = f; accepted = n }

-- a trace that is not whole ticks: 1, the given state and 0; else 0, with the run's last state and count
unfoldable pub run_result_over : Airframe → Flight → List ℕ → List Tick → RunResult
run_result_over a f s ts =
    cond (is_whole s) (ended done (run_of a f ts).flight (run_of a f ts).accepted) (ended (Err WrongLength) f 0)

unfoldable pub run_result_of : Airframe → Flight → List ℕ → RunResult
run_result_of a f s = run_result_over a f s (ticks_of s)

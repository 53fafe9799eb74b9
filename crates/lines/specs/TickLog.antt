-- Ticks flown one after the other, and the text of their lines. Definitions only.
use Rattle.std.specs.Prelude.{◌≡◌, ℕ, ◌+◌, ◌%◌, ◌^◌, List, [], ◌++◌}
use mathlib.Core.List.{foldl}
use Rattle.airframe.specs.declared.Airframe.{Airframe}
use Rattle.flight.specs.declared.Flight.{Flight}
use Rattle.flight.specs.declared.Tick.{Tick}
use Rattle.wing.specs.Tick.{tick_of}
use Rattle.lines.specs.Text.{line_text}
use Rattle.lines.specs.declared.flown.Flown.{Flown}

-- the state after some ticks, the last one's index, and the text of their lines
pub record TickLog : Type 0 where
  pub flight : Flight
  pub index : ℕ
  pub text : List ℕ

-- before the first of them
abbrev pub log_from : Flight → ℕ → TickLog
log_from f index = record { flight = f; index = index; text = [] }

-- counts are in 64 bits
abbrev pub one_more : ℕ → ℕ
one_more n = (n + 1) % 2 ^ 64

-- the line of a tick, by what it answers and hands back
unfoldable pub tick_text : Airframe → Flight → ℕ → Tick → List ℕ
tick_text a f index t = line_text index (tick_of a f t).report.answer (tick_of a f t).flight

-- one tick more: each gets the state that the last one handed back, after a refusal too
unfoldable pub log_on : Airframe → TickLog → Tick → TickLog
log_on a p t = record {
  flight = (tick_of a p.flight t).flight;
  index = one_more p.index;
  text = p.text ++ tick_text a p.flight (one_more p.index) t;
}

-- some ticks, one after the other
unfoldable pub log_of : Airframe → TickLog → List Tick → TickLog
log_of a p ts = foldl (log_on a) p ts

-- ---- what a program keeps of a flight alone

-- before the first tick
pub record StartsAlone (f : Flight) (p : Flown) : Type 0 where
  pub flight : p.flight ≡ f
  pub index : p.index ≡ 0

-- some ticks lead from p to q
pub record LeadsAlone (a : Airframe) (p : Flown) (ts : List Tick) (q : Flown) : Type 0 where
  pub flight : q.flight ≡ (log_of a (log_from p.flight p.index) ts).flight
  pub index : q.index ≡ (log_of a (log_from p.flight p.index) ts).index

-- their lines
abbrev pub lines_alone : Airframe → Flown → List Tick → List ℕ
lines_alone a p ts = (log_of a (log_from p.flight p.index) ts).text

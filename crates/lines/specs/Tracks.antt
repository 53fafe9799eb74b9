-- A flight and its reflection, tick by tick, and their lines. Definitions only.
use Rattle.std.specs.Prelude.{◌≡◌, ℕ, Option, None, Some, cond, List, [], ◌++◌, ◌==◌}
use Rattle.std.specs.Int.NonZero.{non_zero_u64_get}
use Rattle.std.specs.declared.num.NonZeroU64.{NonZeroU64}
use mathlib.Core.List.{foldl}
use Rattle.airframe.specs.Reflection.{reflect_airframe}
use Rattle.airframe.specs.declared.Airframe.{Airframe}
use Rattle.answers.specs.Answers.{is_done}
use Rattle.answers.specs.Answers.{Answer}
use Rattle.flight.specs.Reflection.{reflect_flight, reflect_tick}
use Rattle.flight.specs.declared.Flight.{Flight}
use Rattle.flight.specs.declared.Tick.{Tick}
use Rattle.lines.specs.TickLog.{one_more}
use Rattle.lines.specs.Text.{line_text, mirrored_text}
use Rattle.wing.specs.Tick.{tick_of}
use Rattle.wing.specs.declared.TickResult.{TickResult}
use Rattle.lines.specs.Compare.{mirrored_tick}
use Rattle.lines.specs.declared.track.Track.{Track}

-- the two states, how many ticks there were, how many of them each flight accepted, and the first that does not mirror (0: none)
pub record Tracks : Type 0 where
  pub first : Flight
  pub second : Flight
  pub ticks : ℕ
  pub accepted : ℕ
  pub mirrored : ℕ
  pub differs : ℕ

-- a tick's index, 0 for none
abbrev pub tick_or_0 : Option NonZeroU64 → ℕ
tick_or_0 None = 0
tick_or_0 (Some tick) = non_zero_u64_get tick

-- those of the program
abbrev pub tracks_of : Track → Tracks
tracks_of p = record {
  first = p.first;
  second = p.second;
  ticks = p.ticks;
  accepted = p.accepted;
  mirrored = p.accepted_mirrored;
  differs = tick_or_0 p.differs;
}

unfoldable pub tracks_at_start : Flight → Tracks
tracks_at_start f = record { first = f; second = reflect_flight f; ticks = 0; accepted = 0; mirrored = 0; differs = 0 }

-- one more where the answer is 0
unfoldable pub count_of : ℕ → Answer → ℕ
count_of n x = cond (is_done x) (one_more n) n

-- the first tick that does not mirror, this one being `index`
unfoldable pub unlike_of : ℕ → ℕ → TickResult → TickResult → ℕ
unlike_of differs index x y = cond (differs == 0) (cond (mirrored_tick x y) 0 index) differs

-- after a tick that gave x, and y in the reflection
unfoldable pub tracks_after : Tracks → TickResult → TickResult → Tracks
tracks_after p x y = record {
  first = x.flight;
  second = y.flight;
  ticks = one_more p.ticks;
  accepted = count_of p.accepted x.report.answer;
  mirrored = count_of p.mirrored y.report.answer;
  differs = unlike_of p.differs (one_more p.ticks) x y;
}

-- one tick more, and its reflection
unfoldable pub tracks_on : Airframe → Tracks → Tick → Tracks
tracks_on a p t = tracks_after p (tick_of a p.first t) (tick_of (reflect_airframe a) p.second (reflect_tick t))

-- ---- the lines

-- those of a tick that gave x, and y in the reflection
unfoldable pub pair_text : ℕ → TickResult → TickResult → List ℕ
pair_text index x y = line_text index x.report.answer x.flight ++ mirrored_text index y.report.answer y.flight

-- those of one tick more
unfoldable pub text_on : Airframe → Tracks → Tick → List ℕ
text_on a p t = pair_text (one_more p.ticks) (tick_of a p.first t) (tick_of (reflect_airframe a) p.second (reflect_tick t))

-- ---- ticks, one after the other

-- the tracks after some ticks, and the text of their lines
pub record Shown : Type 0 where
  pub tracks : Tracks
  pub text : List ℕ

-- one tick more
unfoldable pub shown_on : Airframe → Shown → Tick → Shown
shown_on a p t = record { tracks = tracks_on a p.tracks t; text = p.text ++ text_on a p.tracks t }

-- some ticks, from the tracks p on
abbrev pub shown_over : Airframe → Tracks → List Tick → Shown
shown_over a p ts = foldl (shown_on a) (record { tracks = p; text = [] }) ts

-- ---- what a program keeps of a flight and its reflection

-- before the first tick
abbrev pub StartsBeside : Flight → Track → Type 0
StartsBeside f p = tracks_of p ≡ tracks_at_start f

-- some ticks lead from p to q
abbrev pub LeadsBeside : Airframe → Track → List Tick → Track → Type 0
LeadsBeside a p ts q = tracks_of q ≡ (shown_over a (tracks_of p) ts).tracks

-- their lines
abbrev pub lines_beside : Airframe → Track → List Tick → List ℕ
lines_beside a p ts = (shown_over a (tracks_of p) ts).text

-- What the code's promises name besides the definitions: one loop flies a trace's track, each tick taken by an operation, which leaves
-- it as it is or reflects it. Nothing here needs believing: the calls' promises are by the definitions of Run.antt and Mirrored.antt,
-- and `proofs/Loop` says what each of these is in their terms.
use Rattle.std.specs.Prelude.{ℕ, List, map}
use Rattle.airframe.specs.declared.Airframe.{Airframe}
use Rattle.answers.specs.Answers.{done}
use Rattle.flight.specs.declared.Flight.{Flight}
use Rattle.flight.specs.declared.Tick.{Tick}
use Rattle.trace.specs.Trace.{ticks_of}
use Rattle.run.specs.Run.{Progress, ended, progressed, run_result_over, run_of}
use Rattle.run.specs.declared.RunResult.{RunResult}

-- the ticks of a track
abbrev pub track_ticks : (Tick → Tick) → List ℕ → List Tick
track_ticks take s = map take (ticks_of s)

-- a run's progress by a tick of a track
abbrev pub track_on : (Tick → Tick) → Airframe → Progress → Tick → Progress
track_on take a p t = progressed a p (take t)

-- its run
unfoldable pub track_result : (Tick → Tick) → Airframe → Flight → List ℕ → RunResult
track_result take a f s = run_result_over a f s (track_ticks take s)

-- its run where the trace is whole ticks
unfoldable pub track_flown : (Tick → Tick) → Airframe → Flight → List ℕ → RunResult
track_flown take a f s = ended done (run_of a f (track_ticks take s)).flight (run_of a f (track_ticks take s)).accepted

-- What a tick and a run leave in the state's array is by one definition. Assumes nothing.
use lib.Ieee.{Float}
use mathlib.Core.List.{List}
use mathlib.Core.Path.{◌≡◌, refl}
use Rattle.run.specs.declared.RunResult.{RunResult}
use Rattle.wing.specs.declared.TickResult.{TickResult}
use Rattle.bench_c.specs.Library.{state_after_run, state_after_tick}
use Rattle.bench_c.specs.Promises.{state_after}

pub of_tick : (state : List Float) (k : TickResult) → state_after state k.report.answer k.flight ≡ state_after_tick state k
unfolding state_after state_after_tick
of_tick state k = refl

pub of_run : (state : List Float) (r : RunResult) → state_after state r.answer r.flight ≡ state_after_run state r
unfolding state_after state_after_run
of_run state r = refl

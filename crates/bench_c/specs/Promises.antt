-- What the code's promises name besides the definitions: the pair of runs before it goes into the caller's arrays, and the state's
-- array after a tick or a run. Nothing here needs believing: the library's promises are by the definitions of Library.antt alone.
use Rattle.std.specs.Prelude.{ℕ, Float, List, cond, ◌≡◌}
use Rattle.airframe_block.specs.declared.AirframeRead.{AirframeRead}
use Rattle.answers.specs.Answers.{Answer, is_done, number_of}
use Rattle.arrays.specs.Flight.{flight_numbers}
use Rattle.flight.specs.declared.Flight.{Flight}
use Rattle.run.specs.Mirrored.{Demand3, RunRel}
use Rattle.run.specs.declared.Pair.{Pair}
use Rattle.bench_c.specs.Library.{run_result_by, reflected_by}

-- the pair of an airframe that was read: both runs, that they mirror, and demand 3 where the run is not refused
pub record PairBy (x : AirframeRead) (f : Flight) (trace : List ℕ) (r : Pair) : Type 0 where
  pub first : r.first ≡ run_result_by x f trace
  pub second : r.second ≡ reflected_by x f trace
  pub ends : RunRel r.first r.second
  pub theorem : number_of r.first.answer ≡ 0 → Demand3 x.airframe f

-- the state's array afterwards: as found where the tick or the run is refused
unfoldable pub state_after : List Float → Answer → Flight → List Float
state_after state x f = cond (is_done x) (flight_numbers f) state

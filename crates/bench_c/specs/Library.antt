-- What each call of the library gives back (include/bench.h), on bytes and on arrays of numbers (arrays/specs): one of the bench's
-- calls, after the lengths of the arrays. An array of another length gets 1, and nothing is written. Definitions only.
use Rattle.std.specs.Prelude.{Err, ◌%◌, ◌*◌, ◌+◌, ◌/◌, ℕ, eqb, Float, get_or, length, Bool, ◌&&◌, cond, true, List, [], ◌∷◌, map, ◌≡◌}
use Rattle.std.specs.Float.{nan}
use Rattle.airframe.specs.Reflection.{AirframeRel, reflect_airframe}
use Rattle.airframe.specs.declared.Airframe.{Airframe}
use Rattle.airframe_block.specs.Block.{read_airframe_of}
use Rattle.airframe_block.specs.declared.AirframeRead.{AirframeRead}
use Rattle.answers.specs.Answers.{is_done, number_of, place_of}
use Rattle.answers.specs.Answers.{Answer}
use Rattle.answers.specs.declared.Refusal.TheVariants.{WrongLength}
use Rattle.flight.specs.Reflection.{FlightRel, TickRel, reflect_flight}
use Rattle.flight.specs.declared.Flight.{Flight}
use Rattle.flight.specs.declared.Tick.{Tick}
use Rattle.block_parts.specs.Parts.{write_answer}
use Rattle.arrays.specs.Airframe.{airframe_numbers, airframe_numbers_count, airframe_in}
use Rattle.arrays.specs.Flight.{flight_numbers, flight_in, state_numbers_count, tick_in, tick_numbers, tick_numbers_count}
use Rattle.run.specs.Calls.{Chain, Each}
use Rattle.run.specs.Mirrored.{AcceptedAirframe, AcceptedState, Demand3, MirroredFlights}
use Rattle.run.specs.Run.{Told, ended, run_result_of}
use Rattle.run.specs.declared.RunResult.{RunResult}
use Rattle.state_block.specs.Layout.{read_state_of, state_bytes, written_state}
use Rattle.trace.specs.Reflection.{reflect_trace}
use Rattle.trace.specs.Tick.{read_tick_of, tick_bytes, written_tick}
use Rattle.trace.specs.Trace.{is_whole}
use Rattle.wing.specs.Tick.{refused_of, tick_of}
use Rattle.wing.specs.declared.Report.{Report}
use Rattle.wing.specs.declared.TickResult.{TickResult}

-- a reply as one number: the answer's number in the low four bits, its place above them
unfoldable pub reply_of : Answer → ℕ
reply_of x = number_of x + 16 * place_of x

-- the reply where an array is of another length
abbrev pub wrong_length : ℕ
wrong_length = 1

abbrev pub has_length : {X : Type 0} → List X → ℕ → Bool
has_length xs n = eqb (length xs) n

-- ---- reading and writing

-- what a call gives back that fills an array
pub record Filled : Type 0 where
  pub reply : ℕ
  pub numbers : List Float

-- bench_prepare: an airframe block into an array; a refused block gives the zero airframe
unfoldable pub prepare : List ℕ → List Float → Filled
prepare block airframe =
    let x = read_airframe_of block in
    cond (has_length airframe airframe_numbers_count)
    (record { reply = reply_of x.answer; numbers = airframe_numbers x.airframe })
    (record { reply = wrong_length; numbers = airframe })

-- bench_read_state: a state block into an array; a refused block gives the zero state
unfoldable pub read_state : List ℕ → List Float → Filled
read_state block state =
    let x = read_state_of block in
    cond (has_length state state_numbers_count)
    (record { reply = reply_of x.answer; numbers = flight_numbers x.flight })
    (record { reply = wrong_length; numbers = state })

-- what a call gives back that writes a block
pub record Written : Type 0 where
  pub reply : ℕ
  pub block : List ℕ

-- bench_write_state: a state's array into a block
unfoldable pub write_state : List Float → List ℕ → Written
write_state state block =
    cond (has_length state state_numbers_count)
    (record { reply = reply_of (write_answer state_bytes block); block = written_state block (flight_in state) })
    (record { reply = wrong_length; block = block })

-- bench_read_tick: a tick block into an array; a refused block gives a tick of zeros
unfoldable pub read_tick : List ℕ → List Float → Filled
read_tick block t =
    let x = read_tick_of block in
    cond (has_length t tick_numbers_count)
    (record { reply = reply_of x.answer; numbers = tick_numbers x.tick })
    (record { reply = wrong_length; numbers = t })

-- bench_write_tick: a tick's array into a block
unfoldable pub write_tick : List Float → List ℕ → Written
write_tick t block =
    cond (has_length t tick_numbers_count)
    (record { reply = reply_of (write_answer tick_bytes block); block = written_tick block (tick_in t) })
    (record { reply = wrong_length; block = block })

-- ---- a tick

-- what a tick gives back
pub record TickOutcome : Type 0 where
  pub reply : ℕ
  pub state : List Float
  pub report : List Float

abbrev pub report_numbers_count : ℕ
report_numbers_count = 3

unfoldable pub report_numbers : Report → List Float
report_numbers r = r.alpha_rad ∷ r.beta_rad ∷ r.thrust_n ∷ []

-- the state's array afterwards: as found where the tick is refused
unfoldable pub state_after_tick : List Float → TickResult → List Float
state_after_tick state k = cond (is_done k.report.answer) (flight_numbers k.flight) state

-- a tick that was tested, and one whose arrays are of another length
abbrev pub tested : List Float → TickResult → TickOutcome
tested state k = record {
  reply = reply_of k.report.answer;
  state = state_after_tick state k;
  report = report_numbers k.report;
}

abbrev pub untested : List Float → List Float → TickOutcome
untested state report = record { reply = wrong_length; state = state; report = report }

-- the airframe of a block that is refused refuses the tick, with the block's own answer
unfoldable pub ticked_by : AirframeRead → Flight → Tick → TickResult
ticked_by x f t = cond (is_done x.answer) (tick_of x.airframe f t) (refused_of x.answer f)

-- whether the lengths are those of a state, a tick and a report
unfoldable pub tick_lengths : ℕ → ℕ → ℕ → Bool
tick_lengths state t report = eqb state state_numbers_count && eqb t tick_numbers_count && eqb report report_numbers_count

-- bench_tick: with the airframe as its block
unfoldable pub tick : List ℕ → List Float → List Float → List Float → TickOutcome
tick block state t report =
    cond (tick_lengths (length state) (length t) (length report))
    (tested state (ticked_by (read_airframe_of block) (flight_in state) (tick_in t)))
    (untested state report)

-- bench_tick_prepared: with the airframe as its array
unfoldable pub tick_prepared : List Float → List Float → List Float → List Float → TickOutcome
tick_prepared airframe state t report =
    cond (has_length airframe airframe_numbers_count && tick_lengths (length state) (length t) (length report))
    (tested state (tick_of (airframe_in airframe) (flight_in state) (tick_in t)))
    (untested state report)

-- ---- tick calls one after another (run/specs/Calls.antt), each fed the state's array that the last one left

-- one call, with the block or with a prepared airframe, on arrays that fit: what it finds, its outcome, and the array it leaves
pub record ArrayCall (call : List Float → List Float → List Float → TickOutcome) (state t : List Float) (o : TickOutcome)
    (after : List Float) : Type 0 where
  pub report : List Float
  pub fit : tick_lengths (length state) (length t) (length report) ≡ true
  pub answered : o ≡ call state t report
  pub left : after ≡ o.state

-- what an outcome tells: the reply's answer and place, the report's three numbers, and the state in its array
unfoldable pub told_in : TickOutcome → Told
told_in o = record {
  answer = o.reply % 16;
  place = o.reply / 16;
  alpha = get_or o.report 0 nan;
  beta = get_or o.report 1 nan;
  thrust = get_or o.report 2 nan;
  state = flight_in o.state;
}

-- Demand 3 of two chains of such calls, from the array `found` with A and from `found'` with A', where A', that array and its ticks
-- are the first ones with left and right exchanged, number for number (run/specs/Mirrored.antt)
abbrev pub ArrayCallsMirror : (call call' : List Float → List Float → List Float → TickOutcome) → Airframe → Airframe → List Float → Type 0
ArrayCallsMirror call call' a a' found =
    AcceptedState (flight_in found) → (found' : List Float) (us us' : List (List Float)) (os os' : List TickOutcome) (z z' : List Float)
    → AirframeRel a a' → FlightRel (flight_in found) (flight_in found') → Each TickRel (map tick_in us) (map tick_in us')
    → Chain (ArrayCall call) found us os z → Chain (ArrayCall call') found' us' os' z'
    → MirroredFlights a a' (flight_in found) (flight_in found') (map tick_in us) (map tick_in us') (map told_in os) (map told_in os') (flight_in z)
    (flight_in z')

-- ---- a run, and the mirrored pair

-- the state's array afterwards: as found where the run is refused
unfoldable pub state_after_run : List Float → RunResult → List Float
state_after_run state r = cond (is_done r.answer) (flight_numbers r.flight) state

-- a trace that is not whole ticks first, then a block that is refused, with its own answer: either leaves the state, with no
-- accepted tick
unfoldable pub run_result_by : AirframeRead → Flight → List ℕ → RunResult
run_result_by x f trace =
    cond (is_whole trace) (cond (is_done x.answer) (run_result_of x.airframe f trace) (ended x.answer f 0)) (ended (Err WrongLength) f 0)

-- the run's reflection: reflected airframe, state and ticks
unfoldable pub reflected_by : AirframeRead → Flight → List ℕ → RunResult
reflected_by x f trace =
    cond (is_whole trace)
    (cond (is_done x.answer)
    (run_result_of (reflect_airframe x.airframe) (reflect_flight f) (reflect_trace trace))
    (ended x.answer (reflect_flight f) 0))
    (ended (Err WrongLength) (reflect_flight f) 0)

-- what a run gives back
pub record RunOutcome : Type 0 where
  pub reply : ℕ
  pub state : List Float
  pub accepted : ℕ

-- bench_run
unfoldable pub run : List ℕ → List Float → List ℕ → RunOutcome
run block state trace =
    let r = run_result_by (read_airframe_of block) (flight_in state) trace in
    cond (has_length state state_numbers_count)
    (record { reply = reply_of r.answer; state = state_after_run state r; accepted = r.accepted })
    (record { reply = wrong_length; state = state; accepted = 0 })

-- what the pair gives back
pub record PairOutcome : Type 0 where
  pub reply : ℕ
  pub state : List Float
  pub reflected : List Float
  pub accepted : ℕ
  pub accepted_reflected : ℕ

-- whether the lengths are those of two states
unfoldable pub pair_lengths : ℕ → ℕ → Bool
pair_lengths state reflected = eqb state state_numbers_count && eqb reflected state_numbers_count

-- bench_mirrored_pair: r the run, s its reflection
unfoldable pub mirrored_pair : List ℕ → List Float → List Float → List ℕ → PairOutcome
mirrored_pair block state reflected trace =
    let r = run_result_by (read_airframe_of block) (flight_in state) trace in
    let s = reflected_by (read_airframe_of block) (flight_in state) trace in
    cond (pair_lengths (length state) (length reflected))
    (record {
      reply = reply_of r.answer;
      state = state_after_run state r;
      reflected = state_after_run reflected s;
      accepted = r.accepted;
      accepted_reflected = s.accepted;
    })
    (record { reply = wrong_length; state = state; reflected = reflected; accepted = 0; accepted_reflected = 0 })

-- Demand 3 of what a pair that is done leaves: the end states in the two arrays are each other's reflections number for number, and
-- the counts are equal; demand 3 of the block's airframe, which is accepted, and of the state that was found; and the same of chains
-- of bench_tick, with any other block that is read as the reflected airframe, and of bench_tick_prepared, with any two airframe arrays.
pub record PairMirrors (block : List ℕ) (found state reflected : List Float) (accepted accepted_reflected : ℕ) : Type 0 where
  pub states : FlightRel (flight_in state) (flight_in reflected)
  pub count : accepted_reflected ≡ accepted
  pub airframe : AcceptedAirframe (read_airframe_of block).airframe
  pub theorem : Demand3 (read_airframe_of block).airframe (flight_in found)
  pub block-calls : (block' : List ℕ) → is_done (read_airframe_of block').answer ≡ true
      → ArrayCallsMirror (tick block) (tick block') (read_airframe_of block).airframe (read_airframe_of block').airframe found
  pub prepared-calls : (p p' : List Float) → length p ≡ airframe_numbers_count → length p' ≡ airframe_numbers_count
      → airframe_in p ≡ (read_airframe_of block).airframe
      → ArrayCallsMirror (tick_prepared p) (tick_prepared p') (airframe_in p) (airframe_in p') found

-- Demand 3, the whole claim, for a surveyor to read alone.
--
-- A is any accepted airframe, S any accepted state, T any list of ticks, whatever their bits, also such as are refused. A', S'
-- and T' are A, S and T with left and right exchanged by sign bits: the torques of motors and lift rotors and the weights in roll
-- and yaw, position, velocity and wind in east, the attitude in i and k, the rates in p and r. One flight goes over T with A from S,
-- the other over T' with A' from S'; a tick starts from what the tick before it handed back. `calls_of` is what each call tells,
-- `run_of` a run's last state and count, `run_result_of` the run that gets all bytes of a trace at once: all by demand 2's definition
-- (Run.antt). `Same` and `Opposite` compare numbers as results are, 0 and -0 as one. The claim is `Demand3`; what stands before it
-- are its words. Definitions only.
use Rattle.std.specs.Prelude.{◌<◌, ℕ, false, true, List, [], ◌∷◌, map, ◌≡◌}
use Rattle.std.specs.Float.Ieee.Scale.{finite}
use Rattle.air.specs.Density.{density_of, last_row}
use Rattle.airframe.specs.Acceptance.{refused_place}
use Rattle.airframe.specs.Reflection.{AirframeRel, reflect_airframe}
use Rattle.airframe.specs.declared.Airframe.{Airframe}
use Rattle.flight.specs.Envelope.{outside_of}
use Rattle.flight.specs.Reflection.{FlightRel, TickRel, reflect_flight, reflect_tick}
use Rattle.flight.specs.declared.Flight.{Flight}
use Rattle.flight.specs.declared.Tick.{Tick}
use Rattle.float.specs.Interval.{Within}
use Rattle.float.specs.Notation.{minus_one, zero, one}
use Rattle.float.specs.Same.{Opposite, Same}
use Rattle.mixers.specs.Slots.{at}
use Rattle.motors.specs.Running.{MotorsInRange}
use Rattle.trace.specs.Reflection.{reflect_trace}
use Rattle.trace.specs.Trace.{ticks_of}
use Rattle.wing.specs.Tick.{density_for}
use Rattle.wing.specs.declared.TickResult.{TickResult}
use Rattle.run.specs.Calls.{Chain, Each, LentCall, ValueCall}
use Rattle.run.specs.Run.{Told, accepted_in, calls_of, run_result_of, run_of, told_by}
use Rattle.run.specs.declared.Pair.{Pair}
use Rattle.run.specs.declared.RunResult.{RunResult}

-- each element of a list
pub data All {X : Type 0} (P : X → Type 0) : List X → Type 0 where
  all_none : All P []
  all_more : {x : X} {xs : List X} → P x → All P xs → All P (x ∷ xs)

-- an airframe is accepted if 6 does not hold of it, a state if 7 does not
abbrev pub AcceptedAirframe : Airframe → Type 0
AcceptedAirframe a = refused_place a ≡ 0

abbrev pub AcceptedState : Flight → Type 0
AcceptedState s = outside_of s ≡ 0

-- one tick in both flights; with the state that it leaves, the air's density at the height where the next tick starts (02, 6)
pub record Agree (k k' : Told) : Type 0 where
  pub answer : k'.answer ≡ k.answer
  pub place : k'.place ≡ k.place
  pub alpha : Same k.alpha k'.alpha
  pub thrust : Same k.thrust k'.thrust
  pub beta : Opposite k.beta k'.beta
  pub state : FlightRel k.state k'.state
  pub density : density_for k'.state ≡ density_for k.state

-- the running values of a state, in a flight that began at `start`: a used motor's in 0..1, an unused one's that of `start`, a
-- surface's in -1..1; the thrust scales, in 0..1 and those of `start` (02, 2); and of the lift rotors the same as of the motors, a
-- rotor being used or not within its own group, and without lift numbers all as at `start` (02, 5); and the density of the air at
-- its height, between those of the table's last row and its first, 0.7361 and 1.3470 (02, 6)
pub record InRange (a : Airframe) (start f : Flight) : Type 0 where
  pub motors : MotorsInRange a.motors.used start.motors f.motors
  pub surface : (k : ℕ) → k < 8 → Within minus_one one (at f.servos k)
  pub scale : (k : ℕ) → k < 8 → Within zero one (at f.thrust_scale k)
  pub unaltered : f.thrust_scale ≡ start.thrust_scale
  pub lift : MotorsInRange a.lift.motors.used start.lift_motors f.lift_motors
  pub unlifted : a.lift_present ≡ false → f.lift_motors ≡ start.lift_motors
  pub density : Within (density_of last_row) (density_of 0) (density_for f)

-- the angles that a call reports are numbers, neither a NaN nor infinite (02, 1)
pub record Angles (k : Told) : Type 0 where
  pub alpha : finite k.alpha ≡ true
  pub beta : finite k.beta ≡ true

-- one flight: before its first tick and after every tick the running values, the scales and the density are in range, and every
-- report's angles are numbers
pub record Ranges (a : Airframe) (s : Flight) (ks : List Told) : Type 0 where
  pub at-start : InRange a s s
  pub after-each : All (λ (k : Told). InRange a s k.state) ks
  pub angles : All Angles ks

-- one flight is demand 2's: what its calls told, the state that it left last, and how many ticks were accepted, call by call and
-- where the run is called once
pub record ByDefinition (a : Airframe) (s : Flight) (ts : List Tick) (ks : List Told) (g : Flight) : Type 0 where
  pub calls : ks ≡ calls_of a s ts
  pub end : g ≡ (run_of a s ts).flight
  pub count : accepted_in ks ≡ (run_of a s ts).accepted

-- two flights, one with left and right exchanged: ks and ks' are what their calls told, g and g' the states they left last
pub record MirroredFlights (a a' : Airframe) (s s' : Flight) (ts ts' : List Tick) (ks ks' : List Told) (g g' : Flight) : Type 0 where
  pub first : ByDefinition a s ts ks g
  pub second : ByDefinition a' s' ts' ks' g'
  pub at-start : FlightRel s s'
  pub each-tick : Each Agree ks ks'
  pub at-end : FlightRel g g'
  pub count : accepted_in ks' ≡ accepted_in ks
  pub ranges : Ranges a s ks
  pub ranges-reflected : Ranges a' s' ks'

-- the flight of T from S with A, and that of T' from S' with A'
abbrev pub Mirrored : Airframe → Flight → List Tick → List Told → List Told → Flight → Flight → Type 0
Mirrored a s ts ks ks' g g' = MirroredFlights a (reflect_airframe a) s (reflect_flight s) ts (map reflect_tick ts) ks ks' g g'

-- what is claimed of any two flights that are demand 2's
abbrev pub FlightsMirror : Airframe → Flight → Type 0
FlightsMirror a s =
    AcceptedAirframe a → AcceptedState s → (a' : Airframe) (s' : Flight) (ts ts' : List Tick) (ks ks' : List Told) (g g' : Flight)
    → AirframeRel a a' → FlightRel s s' → Each TickRel ts ts'
    → ByDefinition a s ts ks g → ByDefinition a' s' ts' ks' g'
    → MirroredFlights a a' s s' ts ts' ks ks' g g'

-- what is claimed of a form of the tick call: of any two chains of such calls that were made, each call fed the state that the last
-- one left
abbrev pub CallsMirror : (Airframe → Flight → Tick → TickResult → Flight → Type 0) → Airframe → Flight → Type 0
CallsMirror Call a s =
    AcceptedAirframe a → AcceptedState s → (ts : List Tick) (ks ks' : List TickResult) (g g' : Flight)
    → Chain (Call a) s ts ks g → Chain (Call (reflect_airframe a)) (reflect_flight s) (map reflect_tick ts) ks' g'
    → Mirrored a s ts (map told_by ks) (map told_by ks') g g'

-- Demand 3: of tick calls by value and over a lent record; of the run called once, which ends where its calls do and counts those
-- that answered 0; and of any two flights that are demand 2's, whatever their calls, of airframes, states and ticks that are each
-- other's reflections number for number. The library's calls over arrays are such (bench_c/specs/Library.antt).
pub record Demand3 (a : Airframe) (s : Flight) : Type 0 where
  pub value-calls : CallsMirror ValueCall a s
  pub lent-calls : CallsMirror LentCall a s
  pub flights : FlightsMirror a s
  pub run : AcceptedAirframe a → AcceptedState s → (ts : List Tick)
      → Mirrored a s ts
      (calls_of a s ts) (calls_of (reflect_airframe a) (reflect_flight s) (map reflect_tick ts))
      (run_of a s ts).flight (run_of (reflect_airframe a) (reflect_flight s) (map reflect_tick ts)).flight

-- what two runs called once hand back: the same answer, states that are each other's reflections, equal counts
pub record RunRel (r r' : RunResult) : Type 0 where
  pub answer : r'.answer ≡ r.answer
  pub state : FlightRel r.flight r'.flight
  pub count : r'.accepted ≡ r.accepted

-- What `mirrored_pair` promises of the two runs it flies over the bytes of T: both are demand 2's, the second over the bytes with
-- each wind east's sign bit flipped, which are the bytes of T'; what they hand back mirrors; and demand 3 of A and S, over the
-- trace's ticks and over every other list.
pub record PairPromise (a : Airframe) (s : Flight) (trace : List ℕ) (r : Pair) : Type 0 where
  pub first : r.first ≡ run_result_of a s trace
  pub second : r.second ≡ run_result_of (reflect_airframe a) (reflect_flight s) (reflect_trace trace)
  pub ticks : ticks_of (reflect_trace trace) ≡ map reflect_tick (ticks_of trace)
  pub ends : RunRel r.first r.second
  pub demand3 : Demand3 a s

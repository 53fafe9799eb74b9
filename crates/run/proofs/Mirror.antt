-- Demand 3, proved: the tick's mirror law and its law of ranges, carried over the whole list of ticks by one induction each. Assumes nothing.
use Prim.Native.Nat.{◌+◌, ℕ}
use mathlib.Core.Bool.{Bool, cond, false, true}
use mathlib.Core.List.{List, [], ◌∷◌, map}
use mathlib.Core.Path.{◌∙◌, ◌≡◌, ap, ap₂, refl, sym}
use borrow.Author.Tests.{eq-eqb, eqb-true}
use denote.Floats.{is_true}
use Rattle.airframe.proofs.Mirror.{reflect-airframe}
use Rattle.airframe.specs.Reflection.{AirframeRel, reflect_airframe}
use Rattle.airframe.specs.declared.Airframe.{Airframe}
use Rattle.answers.specs.Answers.{number_of, place_of}
use Rattle.answers.specs.Answers.{Answer}
use Rattle.answers.specs.declared.Refusal.TheVariants.{WrongLength}
use Rattle.std.specs.Prelude.{Err}
use Rattle.answers.specs.Answers.{done}
use Rattle.flight.proofs.Mirror.{outside-is, reflect-flight, reflect-tick}
use Rattle.flight.specs.Envelope.{is_inside, outside_of}
use Rattle.flight.specs.Reflection.{FlightRel, TickRel, reflect_flight, reflect_tick}
use Rattle.flight.specs.declared.Flight.{Flight}
use Rattle.flight.specs.declared.Tick.{Tick}
use Rattle.motors.proofs.Range as Group
use Rattle.motors.proofs.Range.{unused-unchanged-after, unused-unchanged-same}
use Rattle.wing.proofs.Height.{density-for-in}
use Rattle.wing.proofs.Mirror.{density-for-is, tick-mirror}
use Rattle.wing.proofs.Range.{accepted-running, tick-keeps}
use Rattle.wing.proofs.Wind.{tick-angles}
use Rattle.wing.specs.Reflection.{TickedRel}
use Rattle.wing.proofs.Running.{Representable, Running, UnusedUnchanged}
use Rattle.wing.specs.Tick.{tick_of}
use Rattle.wing.specs.declared.TickResult.{TickResult}
use Rattle.run.proofs.Calls.{all-calls, by-definition, lent-flown, value-flown}
use Rattle.run.proofs.Loop.{stays-inside}
use Rattle.trace.specs.Trace.{is_whole}
use Rattle.run.specs.Calls.{Each, each_more, each_none}
use Rattle.run.specs.Mirrored.{AcceptedState, Agree, All, Angles, ByDefinition, Demand3, InRange, Mirrored, MirroredFlights, RunRel, Ranges}
use Rattle.run.specs.Run.{Progress, Told, calls_of, ended, one_if_done, progressed, run_result_over, run_from, run_of, told_by}

-- ---- the ticks of a reflected list
ticks-mirror : (ts : List Tick) → Each TickRel ts (map reflect_tick ts)
ticks-mirror [] = each_none
ticks-mirror (t ∷ ts) = each_more (reflect-tick t) (ticks-mirror ts)

-- ---- one tick
pub agree : {k k' : TickResult} → TickedRel k k' → Agree (told_by k) (told_by k')
agree h = record {
  answer = ap number_of h.report.answer;
  place = ap place_of h.report.answer;
  alpha = h.report.alpha;
  thrust = h.report.thrust;
  beta = h.report.beta;
  state = h.flight;
  density = density-for-is h.flight;
}

-- ---- the whole list, for airframes, states and lists of ticks that are each other's reflections number for number
pub calls-mirror : {a a' : Airframe} {f f' : Flight} {ts ts' : List Tick} → AirframeRel a a' → FlightRel f f' → Each TickRel ts ts'
    → Each Agree (calls_of a f ts) (calls_of a' f' ts')
unfolding calls_of
calls-mirror h k each_none = each_none
calls-mirror {a = a} {a' = a'} {f = f} {f' = f'} h k (each_more {x = x} {y = y} {xs = xs} {ys = ys} w ws) =
    let r = tick-mirror h k w in
    each_more (agree r) (calls-mirror {a = a} {a' = a'} {f = (tick_of a f x).flight} {f' = (tick_of a' f' y).flight} {ts = xs} {ts' = ys} h r.flight ws)

-- progress that is mirrored
record ProgressRel (p p' : Progress) : Type 0 where
  flight : FlightRel p.flight p'.flight
  accepted : p'.accepted ≡ p.accepted

progressed-mirror : {a a' : Airframe} {p p' : Progress} {t t' : Tick} → AirframeRel a a' → ProgressRel p p' → TickRel t t'
    → ProgressRel (progressed a p t) (progressed a' p' t')
unfolding progressed
progressed-mirror h k w =
    let r = tick-mirror h k.flight w in record {
      flight = r.flight;
      accepted = ap₂ (λ (n : ℕ) (x : Answer). n + one_if_done x) k.accepted r.report.answer;
    }

run-from-mirror : {a a' : Airframe} {p p' : Progress} {ts ts' : List Tick} → AirframeRel a a' → ProgressRel p p' → Each TickRel ts ts'
    → ProgressRel (run_from a p ts) (run_from a' p' ts')
unfolding run_from
run-from-mirror h k each_none = k
run-from-mirror {a = a} {a' = a'} {p = p} {p' = p'} h k (each_more {x = x} {y = y} {xs = xs} {ys = ys} w ws) =
    run-from-mirror {a = a} {a' = a'} {p = progressed a p x} {p' = progressed a' p' y} {ts = xs} {ts' = ys} h (progressed-mirror h k w) ws

pub run-mirror : {a a' : Airframe} {f f' : Flight} {ts ts' : List Tick} → AirframeRel a a' → FlightRel f f' → Each TickRel ts ts'
    → FlightRel (run_of a f ts).flight (run_of a' f' ts').flight × ((run_of a' f' ts').accepted ≡ (run_of a f ts).accepted)
unfolding run_of
run-mirror h k ws = let r = run-from-mirror h (record { flight = k; accepted = refl }) ws in (r.flight, r.accepted)

-- ---- the runs called once on a trace's ticks, whole or not
pub ran-mirror : (a : Airframe) (f : Flight) (s : List ℕ) (ts : List Tick)
    → RunRel (run_result_over a f s ts) (run_result_over (reflect_airframe a) (reflect_flight f) s (map reflect_tick ts))
unfolding run_result_over ended
ran-mirror a f s ts = go (is_whole s)
  where
    go : (t : Bool) → RunRel (cond t (ended done (run_of a f ts).flight (run_of a f ts).accepted) (ended (Err WrongLength) f 0))
        (cond t (ended done (run_of (reflect_airframe a) (reflect_flight f) (map reflect_tick ts)).flight
        (run_of (reflect_airframe a) (reflect_flight f) (map reflect_tick ts)).accepted) (ended (Err WrongLength) (reflect_flight f) 0))
    go true = let r = run-mirror (reflect-airframe a) (reflect-flight f) (ticks-mirror ts) in record { answer = refl; state = r.0; count = r.1 }
    go false = record { answer = refl; state = reflect-flight f; count = refl }

-- ---- the ranges
in-range : (a : Airframe) (start f : Flight) → outside_of f ≡ 0 → Running f → UnusedUnchanged a start f → InRange a start f
in-range a start f o r s = record {
  motors = Group.in-range r.motors s.motors;
  surface = r.servo;
  scale = r.scale;
  unaltered = s.scale;
  lift = Group.in-range r.lift s.lift;
  unlifted = s.unlifted;
  density = density-for-in f o;
}

unused-unchanged-more : {a : Airframe} {start f g : Flight} → UnusedUnchanged a start f → UnusedUnchanged a f g → UnusedUnchanged a start g
unused-unchanged-more s t = record {
  motors = unused-unchanged-after s.motors t.motors;
  scale = t.scale ∙ s.scale;
  lift = unused-unchanged-after s.lift t.lift;
  unlifted = λ p. t.unlifted p ∙ s.unlifted p;
}

stays-accepted : (a : Airframe) (f : Flight) (t : Tick) → outside_of f ≡ 0 → outside_of (tick_of a f t).flight ≡ 0
unfolding is_inside
stays-accepted a f t o = eqb-true _ _ (stays-inside a f t (eq-eqb _ _ o))

-- what the states of a run from `start` keep
abbrev Kept : Airframe → Flight → Flight → Type 0
Kept a start f = (outside_of f ≡ 0) × Representable f × Running f × UnusedUnchanged a start f

ranges-from : (a : Airframe) (start f : Flight) (ts : List Tick) → Kept a start f → All (λ (k : Told). InRange a start k.state) (calls_of a f ts)
ranges-from a start = all-calls (Kept a start) (λ (k : Told). InRange a start k.state) a
    (λ f t k.
    let o = stays-accepted a f t k.0 in
    let n = tick-keeps a f t k.1 k.2 in
    let u = unused-unchanged-more k.3 n.still in
    ((o, n.held, n.running, u), in-range a start (tick_of a f t).flight o n.running u))

-- the angles, of any run
angles-from : (a : Airframe) (f : Flight) (ts : List Tick) → All Angles (calls_of a f ts)
angles-from a f ts =
    all-calls (λ (g : Flight). Unit {0}) Angles a
    (λ g t u. let x = tick-angles a g t in (tt, record { alpha = is_true _ x.0; beta = is_true _ x.1 })) f ts tt

ranges : (a : Airframe) (s : Flight) (ts : List Tick) → AcceptedState s → Representable s → Ranges a s (calls_of a s ts)
ranges a s ts o g =
    let r = accepted-running s o in
    let still : UnusedUnchanged a s s = record { motors = unused-unchanged-same _ _; scale = refl; lift = unused-unchanged-same _ _; unlifted = λ p. refl } in
    record { at-start = in-range a s s o r still; after-each = ranges-from a s s ts (o, g, r, still); angles = angles-from a s ts }

-- ---- demand 3 of two flights that are demand 2's, whatever calls they were made of. `Representable s` is what the type of a state tells: the
-- running values of its motors and lift rotors are 32-bit floats
representable-too : {s s' : Flight} → FlightRel s s' → Representable s → Representable s'
representable-too k g = record { motors = rw k.motors g.motors; lift = rw k.lift g.lift }

pub flights-mirror : {a a' : Airframe} {s s' : Flight} {ts ts' : List Tick} {ks ks' : List Told} {g g' : Flight} → AirframeRel a a' → FlightRel s s'
    → Each TickRel ts ts' → AcceptedState s → Representable s
    → ByDefinition a s ts ks g → ByDefinition a' s' ts' ks' g' → MirroredFlights a a' s s' ts ts' ks ks' g g'
flights-mirror {a} {a'} {s} {s'} {ts} {ts'} h k w o held p q =
    let r = run-mirror h k w in
    record {
      first = p;
      second = q;
      at-start = k;
      each-tick = rw (p.calls, q.calls) (calls-mirror h k w);
      at-end = rw (p.end, q.end) r.0;
      count = q.count ∙ r.1 ∙ sym p.count;
      ranges = rw p.calls (ranges a s ts o held);
      ranges-reflected = rw q.calls (ranges a' s' ts' (outside-is k ∙ o) (representable-too k held));
    }

-- ---- demand 3
pub demand3 : (a : Airframe) (s : Flight) → Representable s → Demand3 a s
demand3 a s held = record {
  value-calls = λ e o ts ks ks' g g' r r'. of-reflections o ts (value-flown a r) (value-flown (reflect_airframe a) r');
  lent-calls = λ e o ts ks ks' g g' r r'. of-reflections o ts (lent-flown a r) (lent-flown (reflect_airframe a) r');
  flights = λ e o a' s' ts ts' ks ks' g g' h k w p q. flights-mirror h k w o held p q;
  run = λ e o ts. of-reflections o ts (by-definition a s ts) (by-definition (reflect_airframe a) (reflect_flight s) (map reflect_tick ts));
}
  where
    of-reflections : AcceptedState s → (ts : List Tick) {ks ks' : List Told} {g g' : Flight} → ByDefinition a s ts ks g
        → ByDefinition (reflect_airframe a) (reflect_flight s) (map reflect_tick ts) ks' g'
        → Mirrored a s ts ks ks' g g'
    of-reflections o ts p q = flights-mirror (reflect-airframe a) (reflect-flight s) (ticks-mirror ts) o held p q

-- Demand 3 of the arrays that a pair leaves. Assumes nothing.
use Prim.Native.Nat.{◌*◌, ◌+◌, ℕ}
use borrow.Author.Tests.{eq-eqb, eqb-true}
use lib.Dec.{eqb}
use lib.Ieee.{Float}
use mathlib.Core.Bool.{Bool, cond, false, true}
use mathlib.Core.List.{List}
use mathlib.Core.Path.{◌∙◌, ◌≡◌, ap, refl, subst, sym}
use native.Mathlib.Nat.{suc-ne-zero}
use native.Mathlib.Omega.{arith}
use Rattle.airframe.specs.Acceptance.{refused_place}
use Rattle.airframe.specs.declared.Airframe.{Airframe}
use Rattle.airframe_block.proofs.Reading.{accepted-is-accepted}
use Rattle.airframe_block.specs.Block.{read_airframe_of}
use Rattle.airframe_block.specs.declared.AirframeRead.{AirframeRead}
use Rattle.answers.proofs.Numbers.{number-done}
use Rattle.answers.specs.Answers.{is_done, number_of, place_of}
use Rattle.answers.specs.Answers.{Answer}
use Rattle.std.specs.Prelude.{Err}
use Rattle.answers.specs.declared.Refusal.TheVariants.{WrongLength}
use Rattle.arrays.specs.Flight.{flight_in, flight_numbers, quat_in, slots_in, vec_in}
use Rattle.flight.proofs.Mirror.{reflect-flight}
use Rattle.flight.specs.Reflection.{FlightRel, reflect_flight}
use Rattle.flight.specs.declared.Flight.{Flight}
use Rattle.mixers.specs.Slots.{at, slots}
use Rattle.run.specs.Mirrored.{Demand3, RunRel}
use Rattle.run.specs.Run.{ended, run_result_of}
use Rattle.run.specs.declared.Pair.{Pair}
use Rattle.run.specs.declared.RunResult.{RunResult}
use Rattle.trace.specs.Trace.{is_whole}
use Rattle.bench_c.proofs.Chain.{block-flown, prepared-flown}
use Rattle.bench_c.specs.Promises.{PairBy}
use Rattle.bench_c.specs.Library.{PairMirrors, run_result_by, reply_of, state_after_run}

-- ---- a pair that is refused
pub ended-mirror : (x : Answer) (f : Flight) (r : Pair) → r.first ≡ ended x f 0 → r.second ≡ ended x (reflect_flight f) 0 → RunRel r.first r.second
unfolding ended
ended-mirror x f r e e' = rw (e, e') (record { answer = refl; state = reflect-flight f; count = refl })

pub ended-number : (x : Answer) (f : Flight) (r : RunResult) → r ≡ ended x f 0 → number_of r.answer ≡ 0 → number_of x ≡ 0
unfolding ended
ended-number x f r e z = sym (ap (λ (k : RunResult). number_of k.answer) e) ∙ z

-- ---- a reply of 0 is of an answer 0
number-none : (x : Answer) → reply_of x ≡ 0 → number_of x ≡ 0
unfolding reply_of
number-none x e = go (number_of x) (place_of x) e
  where
    go : (n p : ℕ) → n + 16 * p ≡ 0 → n ≡ 0
    go n p e = omega (arith, e)

-- ---- a run that answers 0 is of a block that was read
ran-of : (w : Bool) (x : AirframeRead) (f : Flight) (r : RunResult)
    → number_of (cond w (cond (is_done x.answer) r (ended x.answer f 0)) (ended (Err WrongLength) f 0)).answer ≡ 0 → number_of x.answer ≡ 0
unfolding ended
ran-of true x f r e = go (is_done x.answer) refl e
  where
    go : (t : Bool) → is_done x.answer ≡ t → number_of (cond t r (ended x.answer f 0)).answer ≡ 0 → number_of x.answer ≡ 0
    go true d e = eqb-true _ _ d
    go false d e = e
ran-of false x f r e = absurd (suc-ne-zero 0 e)

ran-read : (x : AirframeRead) (f : Flight) (trace : List ℕ) → number_of (run_result_by x f trace).answer ≡ 0 → number_of x.answer ≡ 0
unfolding run_result_by
ran-read x f trace e = ran-of (is_whole trace) x f (run_result_of x.airframe f trace) e

pub ran-accepted : (block : List ℕ) (f : Flight) (trace : List ℕ) → number_of (run_result_by (read_airframe_of block) f trace).answer ≡ 0
    → refused_place (read_airframe_of block).airframe ≡ 0
ran-accepted block f trace e = accepted-is-accepted block (number-done _ (ran-read (read_airframe_of block) f trace e))

-- ---- the arrays of two states that mirror
arrays-mirror : {f f' : Flight} → FlightRel f f' → FlightRel (flight_in (flight_numbers f)) (flight_in (flight_numbers f'))
unfolding flight_in flight_numbers vec_in quat_in slots_in
arrays-mirror h = record {
  body = h.body;
  motors = ap (λ (m : List Float). slots (λ (k : ℕ). at m k)) h.motors;
  servos = ap (λ (m : List Float). slots (λ (k : ℕ). at m k)) h.servos;
  scale = ap (λ (m : List Float). slots (λ (k : ℕ). at m k)) h.scale;
  lift = ap (λ (m : List Float). slots (λ (k : ℕ). at m k)) h.lift;
}

pair-mirror : (state reflected : List Float) (r r' : RunResult) → RunRel r r' → number_of r.answer ≡ 0
    → FlightRel (flight_in (state_after_run state r)) (flight_in (state_after_run reflected r'))
unfolding state_after_run
pair-mirror state reflected r r' h e =
    let d : eqb (number_of r.answer) 0 ≡ true = eq-eqb _ _ e in
    let d' : eqb (number_of r'.answer) 0 ≡ true = ap (λ (x : Answer). eqb (number_of x) 0) h.answer ∙ d in
    rw (d, d') (arrays-mirror h.state)

-- ---- what a pair leaves whose reply is 0
pub pair-mirrors : (block : List ℕ) (found other : List Float) (trace : List ℕ) (x : AirframeRead) (f : Flight) (p : Pair) (end end' : List Float)
    → x ≡ read_airframe_of block → f ≡ flight_in found → PairBy x f trace p → end ≡ state_after_run found p.first
    → end' ≡ state_after_run other p.second → reply_of p.first.answer ≡ 0
    → PairMirrors block found end end' p.first.accepted p.second.accepted
pair-mirrors block found other trace x f p end end' ex ef h l l' z =
    let n = number-none p.first.answer z in
    let m : number_of (run_result_by (read_airframe_of block) f trace).answer ≡ 0 = sym
    (ap (λ (r : RunResult). number_of r.answer) (h.first ∙ ap (λ (y : AirframeRead). run_result_by y f trace) ex)) ∙ n in
    let a : refused_place (read_airframe_of block).airframe ≡ 0 = ran-accepted block f trace m in
    let d : Demand3 (read_airframe_of block).airframe (flight_in found) = rw (← ex, ← ef) (h.theorem n) in
    let b : is_done (read_airframe_of block).answer ≡ true = eq-eqb _ _ (ran-read (read_airframe_of block) f trace m) in
    record {
      states = rw (l, l') (pair-mirror found other p.first p.second h.ends n);
      count = h.ends.count;
      airframe = a;
      theorem = d;
      block-calls =
          λ block' b' o found' us us' os os' z z' ra rs rt r r'. d.flights a o _ _ _ _ _ _ _ _ ra rs rt (block-flown block b r)
          (block-flown block' b' r');
      prepared-calls = λ q q' e e' eq o found' us us' os os' z z' ra rs rt r r'.
          (subst (λ (y : Airframe). Demand3 y (flight_in found)) (sym eq) d).flights (ap refused_place eq ∙ a) o _ _ _ _ _ _ _ _ ra rs rt
          (prepared-flown q e r) (prepared-flown q' e' r');
    }

-- Tick calls of the library, one after another, each fed the array that the last one left: what they tell and leave is what the
-- definition's calls do, so that demand 3 speaks of calls that were made. Assumes nothing.
use Rattle.std.specs.Prelude.{Err}
use Prim.Native.Nat.{◌%◌, ◌*◌, ◌+◌, ◌/◌, ◌<◌, ℕ}
use borrow.Author.Tests.{eq-eqb, ltb-true}
use denote.Floats.{is_true}
use lib.Ieee.{Float}
use lib.ListN.{length}
use mathlib.Core.Bool.{true}
use mathlib.Core.List.{List, map}
use mathlib.Core.Path.{◌∙◌, ◌≡◌, ap, refl}
use native.Mathlib.Omega.{arith}
use Rattle.airframe.specs.declared.Airframe.{Airframe}
use Rattle.airframe_block.specs.Block.{read_airframe_of}
use Rattle.answers.proofs.Numbers.{number_small, refused-not-done}
use Rattle.answers.specs.Answers.{is_done, number_of, place_of}
use Rattle.answers.specs.Answers.{Answer}
use Rattle.answers.specs.declared.Refusal.{Refusal}
use Rattle.arrays.proofs.RoundTrip.{flight-again}
use Rattle.arrays.specs.Airframe.{airframe_in, airframe_numbers_count}
use Rattle.arrays.specs.Flight.{flight_in, slots_in, tick_in}
use Rattle.flight.specs.declared.Flight.{Flight}
use Rattle.flight.specs.declared.Tick.{Tick}
use Rattle.float.proofs.Tests.{either}
use Rattle.motors.specs.Motor.{spin_of}
use Rattle.quadplane_model.specs.Lift.{rotors_spun}
use Rattle.run.proofs.Calls.{OneCall, chain-flown}
use Rattle.run.specs.Calls.{Chain}
use Rattle.run.specs.Mirrored.{ByDefinition}
use Rattle.run.specs.Run.{told_by}
use Rattle.surfaces.specs.Surface.{move_to}
use Rattle.wing.proofs.Passed.{tick-cases}
use Rattle.wing.specs.Tick.{lift_spun, lifted_of, moved_of, next_of, next_with, refused_of, spun_of, stepped_of, tick_of}
use Rattle.wing.specs.declared.TickResult.{TickResult}
use Rattle.bench_c.specs.Library.{ArrayCall, TickOutcome, reply_of, report_numbers, state_after_tick, tested, tick, tick_lengths}
use Rattle.bench_c.specs.Library.{tick_prepared, ticked_by, told_in}

-- ---- what a tick leaves in the array is the state it hands back
abbrev Left : List Float → TickResult → Type 0
Left state k = flight_in (state_after_tick state k) ≡ k.flight

refused-left : (state : List Float) (x : Refusal) → Left state (refused_of (Err x) (flight_in state))
unfolding state_after_tick refused_of
refused-left state x = rw (refused-not-done x) refl

-- the lift rotors that spin, or not, are 8 again
lifted-eight : (a : Airframe) (f : Flight) (t : Tick) → length f.lift_motors ≡ 8 → length (lifted_of a f t) ≡ 8
unfolding lifted_of lift_spun rotors_spun spin_of
lifted-eight a f t e = either (λ (xs : List Float). length xs ≡ 8) a.lift_present refl e

next-left : (a : Airframe) (state : List Float) (f : Flight) (t : Tick) → length f.thrust_scale ≡ 8 → length f.lift_motors ≡ 8
    → Left state (next_of a f t)
unfolding state_after_tick next_with stepped_of spun_of moved_of spin_of move_to
next-left a state f t e l = flight-again _ refl refl e (lifted-eight a f t l)

scales-are-eight : (state : List Float) → length (flight_in state).thrust_scale ≡ 8
unfolding flight_in slots_in
scales-are-eight state = refl

rotors-are-eight : (state : List Float) → length (flight_in state).lift_motors ≡ 8
unfolding flight_in slots_in
rotors-are-eight state = refl

tick-left : (a : Airframe) (state : List Float) (t : Tick) → Left state (tick_of a (flight_in state) t)
tick-left a state t =
    tick-cases (Left state) a (flight_in state) t (λ x. refused-left state x)
    (λ p. next-left a state (flight_in state) t (scales-are-eight state) (rotors-are-eight state))

-- ---- what a reply tells
reply-number : (x : Answer) → reply_of x % 16 ≡ number_of x
unfolding reply_of
reply-number x = go (number_of x) (place_of x) (ltb-true _ _ (is_true _ (number_small x)))
  where
    go : (n p : ℕ) → n < 16 → (n + 16 * p) % 16 ≡ n
    go n p l = omega arith

reply-place : (x : Answer) → reply_of x / 16 ≡ place_of x
unfolding reply_of
reply-place x = go (number_of x) (place_of x) (ltb-true _ _ (is_true _ (number_small x)))
  where
    go : (n p : ℕ) → n < 16 → (n + 16 * p) / 16 ≡ p
    go n p l = omega arith

tested-tells : (a : Airframe) (state : List Float) (t : Tick) → told_in (tested state (tick_of a (flight_in state) t)) ≡ told_by (tick_of a (flight_in state) t)
unfolding told_in report_numbers
tested-tells a state t = let k = tick_of a (flight_in state) t in λ i. record {
  answer = reply-number k.report.answer i;
  place = reply-place k.report.answer i;
  alpha = k.report.alpha_rad;
  beta = k.report.beta_rad;
  thrust = k.report.thrust_n;
  state = tick-left a state t i;
}

-- ---- one call that ticks with the airframe a, whatever form it has
abbrev TicksWith : Airframe → (List Float → List Float → List Float → TickOutcome) → Type 0
TicksWith a call =
    (state t report : List Float) → tick_lengths (length state) (length t) (length report) ≡ true
    → call state t report ≡ tested state (tick_of a (flight_in state) (tick_in t))

one-call : (a : Airframe) (call : List Float → List Float → List Float → TickOutcome) → TicksWith a call
    → (state t : List Float) (o : TickOutcome) (after : List Float) → ArrayCall call state t o after → OneCall a flight_in tick_in told_in state t o after
one-call a call h state t o after c =
    let e : o ≡ tested state (tick_of a (flight_in state) (tick_in t)) = c.answered ∙ h state t c.report c.fit in
    record {
      told = ap told_in e ∙ tested-tells a state (tick_in t);
      left = ap flight_in c.left ∙ ap (λ (x : TickOutcome). flight_in x.state) e ∙ tick-left a state (tick_in t);
    }

-- ---- a chain of them is a flight by demand 2's definition
array-flown : (a : Airframe) (call : List Float → List Float → List Float → TickOutcome) → TicksWith a call
    → {state after : List Float} {ts : List (List Float)} {os : List TickOutcome} → Chain (ArrayCall call) state ts os after
    → ByDefinition a (flight_in state) (map tick_in ts) (map told_in os) (flight_in after)
array-flown a call h r = chain-flown a flight_in tick_in told_in (ArrayCall call) (one-call a call h) r

-- with the airframe as a block that is accepted, and as its array
block-ticks : (block : List ℕ) → is_done (read_airframe_of block).answer ≡ true → TicksWith (read_airframe_of block).airframe (tick block)
unfolding tick ticked_by
block-ticks block d state t report l = rw (l, d) refl

prepared-ticks : (airframe : List Float) → length airframe ≡ airframe_numbers_count → TicksWith (airframe_in airframe) (tick_prepared airframe)
unfolding tick_prepared
prepared-ticks airframe e state t report l = rw (eq-eqb _ _ e, l) refl

module _ {state after : List Float} {ts : List (List Float)} {os : List TickOutcome} where
  pub block-flown : (block : List ℕ) → is_done (read_airframe_of block).answer ≡ true → Chain (ArrayCall (tick block)) state ts os after
      → ByDefinition (read_airframe_of block).airframe (flight_in state) (map tick_in ts) (map told_in os) (flight_in after)
  block-flown block d r = array-flown (read_airframe_of block).airframe (tick block) (block-ticks block d) r

  pub prepared-flown : (airframe : List Float) → length airframe ≡ airframe_numbers_count → Chain (ArrayCall (tick_prepared airframe)) state ts os after
      → ByDefinition (airframe_in airframe) (flight_in state) (map tick_in ts) (map told_in os) (flight_in after)
  prepared-flown airframe e r = array-flown (airframe_in airframe) (tick_prepared airframe) (prepared-ticks airframe e) r

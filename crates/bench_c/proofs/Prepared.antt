-- A tick of a prepared airframe is the tick of its block, since an airframe read from its own numbers is the airframe again; its
-- arrays have 8 elements, which their types tell. Assumes nothing.
use Prim.Native.Nat.{ℕ}
use lib.Ieee.{Float}
use lib.ListN.{length}
use borrow.Author.Tests.{eq-eqb}
use mathlib.Core.Bool.{cond, true}
use mathlib.Core.List.{List}
use mathlib.Core.Path.{◌≡◌, ap}
use Rattle.answers.specs.Answers.{is_done}
use Rattle.float.proofs.Lists.{length-list_of}
use Rattle.airframe.specs.declared.Airframe.{Airframe}
use Rattle.airframe_block.specs.Block.{read_airframe_of}
use Rattle.arrays.proofs.RoundTrip.{airframe-again}
use Rattle.arrays.specs.Airframe.{airframe_number, airframe_numbers, airframe_numbers_count}
use Rattle.arrays.specs.Flight.{flight_in, tick_in}
use Rattle.wing.specs.Tick.{tick_of}
use Rattle.bench_c.specs.Library.{prepare, tested, tick, tick_lengths, tick_prepared, ticked_by, untested}

length-numbers : (a : Airframe) → length (airframe_numbers a) ≡ airframe_numbers_count
unfolding airframe_numbers
length-numbers a = length-list_of (airframe_number a) airframe_numbers_count

-- an airframe's arrays
pub record Eights (a : Airframe) : Type 0 where
  pub used : length a.motors.used ≡ 8
  pub torques : length a.motors.torque_per_thrust_m ≡ 8
  pub weights : length a.weights ≡ 8
  pub lift-used : length a.lift.motors.used ≡ 8
  pub lift-torques : length a.lift.motors.torque_per_thrust_m ≡ 8

-- what `bench_prepare` leaves in an array, given to `bench_tick_prepared`
pub prepared-tick : (block : List ℕ) (array state t report : List Float) → length array ≡ airframe_numbers_count
    → is_done (read_airframe_of block).answer ≡ true → Eights (read_airframe_of block).airframe
    → tick_prepared (prepare block array).numbers state t report ≡ tick block state t report
unfolding prepare tick_prepared tick ticked_by
prepared-tick block array state t report l e h =
    let a = (read_airframe_of block).airframe in
    rw (eq-eqb _ _ l, eq-eqb _ _ (length-numbers a), e)
    (ap (λ (a : Airframe). cond (tick_lengths (length state) (length t) (length report)) (tested state (tick_of a (flight_in state) (tick_in t)))
    (untested state report)) (airframe-again a h.used h.torques h.weights h.lift-used h.lift-torques))

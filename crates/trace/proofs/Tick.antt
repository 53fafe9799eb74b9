-- Writing a tick and reading it again gives it back, number for number (01, "Blocks"). Assumes nothing.
use Prim.Native.Nat.{◌+◌, ◌≤◌, ℕ}
use borrow.Author.Tests.{eq-eqb}
use lib.Dec.{T}
use lib.Ieee.{binary32, fits}
use lib.ListN.{length}
use mathlib.Core.List.{List}
use mathlib.Core.Path.{◌∙◌, ◌≡◌}
use native.Mathlib.Omega.{arith}
use Rattle.answers.specs.Answers.{done}
use Rattle.block_parts.proofs.RoundTrip.{Kept, SlotsFit, VecFits, float_same, slots-before, slots_kept, slots_same, vec-before, vec_kept, vec-same}
use Rattle.block_parts.proofs.Writing.{length-put_float, length-put_floats, length-put_vec}
use Rattle.block_parts.specs.Parts.{put_float, put_floats, put_vec}
use Rattle.flight.specs.declared.Tick.{Tick}
use Rattle.trace.specs.Tick.{put_tick, read_tick_of, tick_from, written_tick}

-- a tick of numbers that 32 bits hold, with 8 motor and 8 servo commands: what every `Tick` of the code is
pub record TickFits (t : Tick) : Type 0 where
  pub step_fits : T (fits binary32 t.step_s)
  pub wind-fits : VecFits t.wind_ned_mps
  pub commands-fit : SlotsFit t.motors
  pub servo-commands-fit : SlotsFit t.servos

module _ (s : List ℕ) (i : ℕ) (t : Tick) (l : i + 80 ≤ length s) (h : TickFits t) where
  abbrev s1 : List ℕ
  s1 = put_float s i t.step_s

  abbrev s2 : List ℕ
  s2 = put_vec s1 (i + 4) t.wind_ned_mps

  abbrev s3 : List ℕ
  s3 = put_floats s2 (i + 16) t.motors 8

  abbrev s4 : List ℕ
  s4 = put_floats s3 (i + 48) t.servos 8

  l1 : length s1 ≡ length s
  l1 = length-put_float s i t.step_s

  l2 : length s2 ≡ length s
  l2 = length-put_vec s1 (i + 4) t.wind_ned_mps ∙ l1

  l3 : length s3 ≡ length s
  l3 = length-put_floats s2 (i + 16) t.motors 8 ∙ l2

  -- what each later part leaves as it was
  k3 : Kept s3 s4 (i + 48)
  k3 j m = slots-before s3 (i + 48) t.servos 8 j m

  k2 : Kept s2 s4 (i + 16)
  k2 j m = k3 j (omega arith) ∙ slots-before s2 (i + 16) t.motors 8 j m

  k1 : Kept s1 s4 (i + 4)
  k1 j m = k2 j (omega arith) ∙ vec-before s1 (i + 4) t.wind_ned_mps j m

  pub length-put_tick : length (put_tick s i t) ≡ length s
  unfolding put_tick
  length-put_tick = length-put_floats s3 (i + 48) t.servos 8 ∙ l3

  -- written, then read
  pub tick-same : tick_from (put_tick s i t) i ≡ t
  unfolding tick_from put_tick
  tick-same =
      simp (
        k1 i (omega arith),
        float_same s i t.step_s (omega arith) h.step_fits,
        vec_kept s2 s4 (i + 16) (i + 4) k2 (omega arith),
        vec-same s1 (i + 4) t.wind_ned_mps (omega (arith, l1)) h.wind-fits,
        slots_kept s3 s4 (i + 48) (i + 16) k3 (omega arith),
        slots_same s2 (i + 16) t.motors (omega (arith, l2)) h.commands-fit,
        slots_same s3 (i + 48) t.servos (omega (arith, l3)) h.servo-commands-fit,
      )

-- a tick written into 80 bytes and read again is the same
pub tick-written-then-read :
    (s : List ℕ) (t : Tick) → length s ≡ 80 → TickFits t → read_tick_of (written_tick s t) ≡ record { answer = done; tick = t }
unfolding written_tick read_tick_of
tick-written-then-read s t l h =
    let b : 0 + 80 ≤ length s = omega arith in
    simp (eq-eqb _ _ l, eq-eqb _ _ (length-put_tick s 0 t b h ∙ l), tick-same s 0 t b h)

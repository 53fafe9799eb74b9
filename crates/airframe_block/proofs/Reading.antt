-- What reading an airframe block can give (01, "What the bench replies"): a refusal, with the airframe of zeros, or an accepted
-- airframe. And where no wash is read, its numbers are 0,
-- and so are the lift rotors' where none are. Assumes nothing.
use Prim.Native.Nat.{ℕ}
use borrow.Author.Tests.{eqb-true}
use lib.Dec.{eqb, ltb}
use lib.Ieee.{Float}
use lib.ListN.{length}
use mathlib.Core.Bool.{Bool, cond, false, not, true}
use mathlib.Core.List.{List}
use mathlib.Core.Path.{◌≡◌, refl}
use native.Mathlib.Omega.{arith}
use Rattle.airframe.proofs.Parts.{rows_apart}
use Rattle.airframe.specs.Acceptance.{lowest_place, refused_place}
use Rattle.airframe.specs.FromNumbers.{lift_constant, lift_drag, lift_layout_of, wash_from, zero_airframe}
use Rattle.airframe.specs.Numbers.{zero_numbers}
use Rattle.airframe.specs.declared.Airframe.{Airframe}
use Rattle.answers.specs.declared.Refusal.{Refusal}
use Rattle.answers.specs.declared.Refusal.TheVariants.{NumberOutOfRange, ReservedBit, TooManyRows, WrongFalloff, WrongLength, WrongVersion}
use Rattle.answers.specs.Answers.{done}
use Rattle.float.proofs.Tests.{either}
use Rattle.float.specs.Bytes.{byte_at}
use Rattle.float.specs.Notation.{zero}
use Rattle.mixers.specs.Rows.{most_rows}
use Rattle.mixers.specs.declared.Rows.{Rows}
use Rattle.airframe_block.specs.Block.{Announced, accepted_airframe, airframe_by, announced_by, bad_row, bytes_of, header_of, numbers_from}
use Rattle.airframe_block.specs.Block.{tested_block, put_numbers, put_segment, put_segments, read_airframe_of, read_as, read_body}
use Rattle.airframe_block.specs.Block.{read_by, read_rows, refused_airframe, reserved_row, rows_at, rows_from, segments_of}
use Rattle.airframe_block.specs.Block.{tested_airframe}
use Rattle.airframe_block.specs.declared.AirframeRead.{AirframeRead}
use Rattle.std.specs.Prelude.{Ok, Err}
use Rattle.airframe_block.specs.declared.Header.{Header}

-- a read is a refusal or the acceptance of an airframe that no place refuses
pub data Outcome : AirframeRead → Type 0 where
  refusal : (a : Refusal) → Outcome (refused_airframe a)
  acceptance : (a : Airframe) → refused_place a ≡ 0 → Outcome (accepted_airframe a)

tested-outcome : (a : Airframe) (p : ℕ) → (p ≡ 0 → refused_place a ≡ 0) → Outcome (tested_airframe a p)
unfolding tested_airframe
tested-outcome a p h = go (eqb p 0) refl
  where
    go : (t : Bool) → eqb p 0 ≡ t → Outcome (cond t (accepted_airframe a) (refused_airframe (NumberOutOfRange p)))
    go true e = acceptance a (h (eqb-true p 0 e))
    go false e = refusal (NumberOutOfRange p)

tested-block-outcome : (a : Airframe) (rows : Rows) → Outcome (tested_block a rows)
unfolding tested_block
tested-block-outcome a rows = tested-outcome a (lowest_place (eqb (bad_row rows) 0) a) (rows_apart a (eqb (bad_row rows) 0))

-- the tests from each on
rows-outcome : (s : List ℕ) (h : Header) (rows : Rows) → Outcome (read_rows s h rows)
unfolding read_rows
rows-outcome s h rows = tested-block-outcome (airframe_by (numbers_from s h) h rows) rows

body-outcome : (s : List ℕ) (h : Header) → Outcome (read_body s h)
unfolding read_body
body-outcome s h =
    either Outcome (eqb (reserved_row s h.lift (rows_at h) h.rows) 0) (rows-outcome s h (rows_from s (rows_at h) h.rows))
    (refusal ReservedBit)

said-outcome : (h : Header) (n : ℕ) (s : List ℕ) → Outcome (read_as s h (Ok n))
unfolding read_as
said-outcome h n s = either Outcome (not (eqb (length s) n)) (refusal WrongLength) (body-outcome s h)

refused-outcome : (s : List ℕ) (h : Header) (x : Refusal) → Outcome (read_as s h (Err x))
unfolding read_as
refused-outcome s h x = refusal x

by-outcome : (s : List ℕ) (h : Header) → Outcome (read_by s h)
unfolding read_by announced_by
by-outcome s h =
    let Reads : Announced → Type 0 = λ x. Outcome (read_as s h x) in
    either Reads (not (eqb h.version 1)) (refused-outcome s h WrongVersion)
    (either Reads (ltb 1 h.kind) (refused-outcome s h WrongFalloff)
    (either Reads (not (eqb h.reserved 0)) (refused-outcome s h ReservedBit)
    (either Reads (ltb most_rows h.rows) (refused-outcome s h TooManyRows) (said-outcome h (bytes_of h) s))))

pub read-outcome : (s : List ℕ) → Outcome (read_airframe_of s)
unfolding read_airframe_of
read-outcome s = either Outcome (ltb (length s) 2) (refusal WrongLength) (by-outcome s (header_of (byte_at s 0) (byte_at s 1)))

accepted-of : (r : AirframeRead) → Outcome r → r.answer ≡ done → refused_place r.airframe ≡ 0
unfolding refused_airframe accepted_airframe
accepted-of r (refusal a) e = let z : ◌≡◌ {A = ℕ} 0 1 = cc in absurd (omega arith)
accepted-of r (acceptance a p) e = p

-- an airframe that a read accepts is accepted by the tick
pub accepted-is-accepted : (s : List ℕ) → (read_airframe_of s).answer ≡ done → refused_place (read_airframe_of s).airframe ≡ 0
accepted-is-accepted s e = accepted-of (read_airframe_of s) (read-outcome s) e

refused-of : (r : AirframeRead) → Outcome r → (r.answer ≡ done → ⊥) → r.airframe ≡ zero_airframe
unfolding refused_airframe accepted_airframe
refused-of r (refusal a) e = refl
refused-of r (acceptance a p) e = absurd (e refl)

-- a refused read gives the airframe of zeros
pub refused-is-zero : (s : List ℕ) → ((read_airframe_of s).answer ≡ done → ⊥) → (read_airframe_of s).airframe ≡ zero_airframe
refused-is-zero s e = refused-of (read_airframe_of s) (read-outcome s) e

-- the numbers of a wash that is not there are zeros (01, module 5)
pub absent-wash : (s : List ℕ) (h : Header) → h.wash ≡ false → wash_from (numbers_from s h) ≡ wash_from zero_numbers
unfolding wash_from numbers_from segments_of put_segments put_segment put_numbers
absent-wash s h e = go h.lift refl
  where
    go : (t : Bool) → h.lift ≡ t → wash_from (numbers_from s h) ≡ wash_from zero_numbers
    go true l = simp (e, l)
    go false l = simp (e, l)

-- and so are those of lift rotors that are not there (02, 5)
pub record LiftAbsent (xs : List Float) : Type 0 where
  pub layout : lift_layout_of xs ≡ lift_layout_of zero_numbers
  pub constant : lift_constant xs ≡ zero
  pub drag : lift_drag xs ≡ zero

pub absent-lift : (s : List ℕ) (h : Header) → h.lift ≡ false → LiftAbsent (numbers_from s h)
unfolding lift_layout_of numbers_from segments_of put_segments put_segment put_numbers
absent-lift s h e = go h.wash refl
  where
    go : (t : Bool) → h.wash ≡ t → LiftAbsent (numbers_from s h)
    go true l = record { layout = simp (e, l); constant = simp (e, l); drag = simp (e, l) }
    go false l = record { layout = simp (e, l); constant = simp (e, l); drag = simp (e, l) }

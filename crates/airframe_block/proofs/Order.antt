-- How the tests of an airframe block follow one another. Assumes nothing.
use Prim.Native.Nat.{◌≤◌, ℕ}
use borrow.Author.Tests.{eq-eqb, le-ltb, ne_eqb}
use lib.ListN.{length}
use mathlib.Core.List.{List}
use mathlib.Core.Path.{◌∙◌, ◌≡◌, ap, refl}
use Rattle.airframe.specs.declared.Airframe.{Airframe}
use Rattle.answers.specs.declared.Refusal.{Refusal}
use Rattle.answers.specs.declared.Refusal.TheVariants.{NumberOutOfRange, ReservedBit, WrongLength}
use Rattle.float.specs.Bytes.{byte_at}
use Rattle.airframe_block.specs.Block.{Announced, accepted_airframe, announced_by, header_of, read_airframe_of, read_as, read_body, read_by}
use Rattle.airframe_block.specs.Block.{read_rows, refused_airframe, reserved_row, rows_at, rows_from, tested_airframe}
use Rattle.airframe_block.specs.declared.AirframeRead.{AirframeRead}
use Rattle.std.specs.Prelude.{Ok, Err}
use Rattle.airframe_block.specs.declared.Header.{Header}

-- two bytes or more: by the header
pub by-header : (s : List ℕ) (h : Header) (r : AirframeRead) → 2 ≤ length s → h ≡ header_of (byte_at s 0) (byte_at s 1) → r ≡ read_by s h → r ≡ read_airframe_of s
unfolding read_airframe_of
by-header s h r l e g = rw (le-ltb (length s) 2 l) (g ∙ ap (read_by s) e)

-- by what the header announces
pub by_said : (s : List ℕ) (h : Header) (x : Announced) (r : AirframeRead) → x ≡ announced_by h → r ≡ read_as s h x → r ≡ read_by s h
unfolding read_by
by_said s h x r e g = g ∙ ap (read_as s h) e

-- a length that is not the one announced, and one that is
pub length-refused : (s : List ℕ) (h : Header) (n : ℕ) → (length s ≡ n → ⊥) → refused_airframe WrongLength ≡ read_as s h (Ok n)
unfolding read_as
length-refused s h n e = simp (ne_eqb (length s) n e)

pub length-read : (s : List ℕ) (h : Header) (n : ℕ) → length s ≡ n → read_body s h ≡ read_as s h (Ok n)
unfolding read_as
length-read s h n e = simp (eq-eqb (length s) n e)

pub header_refused : (s : List ℕ) (h : Header) (x : Refusal) → refused_airframe x ≡ read_as s h (Err x)
unfolding read_as
header_refused s h x = refl

-- the reserved bits of the rows
pub body_refused : (s : List ℕ) (h : Header) → (reserved_row s h.lift (rows_at h) h.rows ≡ 0 → ⊥) → refused_airframe ReservedBit ≡ read_body s h
unfolding read_body
body_refused s h n = simp (ne_eqb (reserved_row s h.lift (rows_at h) h.rows) 0 n)

pub body-read : (s : List ℕ) (h : Header) → reserved_row s h.lift (rows_at h) h.rows ≡ 0 → read_rows s h (rows_from s (rows_at h) h.rows) ≡ read_body s h
unfolding read_body
body-read s h e = simp (eq-eqb (reserved_row s h.lift (rows_at h) h.rows) 0 e)

-- the place
pub place-refused : (a : Airframe) (p : ℕ) → (p ≡ 0 → ⊥) → refused_airframe (NumberOutOfRange p) ≡ tested_airframe a p
unfolding tested_airframe
place-refused a p n = simp (ne_eqb p 0 n)

pub place-accepted : (a : Airframe) (p : ℕ) → p ≡ 0 → accepted_airframe a ≡ tested_airframe a p
unfolding tested_airframe
place-accepted a p e = simp (eq-eqb p 0 e)

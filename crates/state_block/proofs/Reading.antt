-- A state that a read accepts is within the envelope. Assumes nothing.
use Prim.Native.Nat.{ℕ}
use borrow.Author.Tests.{eqb-true}
use lib.Dec.{eqb}
use lib.ListN.{length}
use mathlib.Core.Bool.{Bool, cond, false, true}
use mathlib.Core.List.{List}
use mathlib.Core.Path.{◌≡◌, refl}
use native.Mathlib.Omega.{arith}
use Rattle.answers.specs.declared.Refusal.TheVariants.{StateOutside, WrongLength}
use Rattle.answers.specs.Answers.{done}
use Rattle.float.proofs.Tests.{either}
use Rattle.flight.specs.Envelope.{outside_of}
use Rattle.flight.specs.declared.Flight.{Flight}
use Rattle.block_parts.specs.Parts.{floats_from}
use Rattle.state_block.specs.Layout.{accepted_state, flight_from, flight_with, lift_at, read_full_of, read_state_of, refused_state}
use Rattle.state_block.specs.Layout.{scales_at, state_bytes, tested_state, unlifted, unscaled}
use Rattle.state_block.specs.declared.StateRead.{StateRead}

abbrev Within : StateRead → Type 0
Within r = r.answer ≡ done → outside_of r.flight ≡ 0

refused-length : Within (refused_state WrongLength)
unfolding refused_state
refused-length e = let z : ◌≡◌ {A = ℕ} 0 1 = cc in absurd (omega arith)

tested-within : (f : Flight) → Within (tested_state f)
unfolding accepted_state refused_state tested_state
tested-within f = go (eqb (outside_of f) 0) refl
  where
    go : (t : Bool) → eqb (outside_of f) 0 ≡ t → Within (cond t (accepted_state f) (refused_state StateOutside))
    go true h e = eqb-true (outside_of f) 0 h
    go false h e = let z : ◌≡◌ {A = ℕ} 0 1 = cc in absurd (omega arith)

state-within : (s : List ℕ) → Within (read_state_of s)
unfolding read_state_of
state-within s =
    either Within (eqb (length s) state_bytes) (tested-within (flight_from s 0))
    (either Within (eqb (length s) lift_at) (tested-within (flight_with (floats_from s scales_at) unlifted s 0))
    (either Within (eqb (length s) scales_at) (tested-within (flight_with unscaled unlifted s 0)) refused-length))

pub accepted-state : (s : List ℕ) → (read_state_of s).answer ≡ done → outside_of (read_state_of s).flight ≡ 0
accepted-state s = state-within s

pub accepted-full : (s : List ℕ) → (read_full_of s).answer ≡ done → outside_of (read_full_of s).flight ≡ 0
unfolding read_full_of
accepted-full s = either Within (eqb (length s) state_bytes) (state-within s) refused-length

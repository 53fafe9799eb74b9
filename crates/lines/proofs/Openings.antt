-- What the start of an input gives is what some bytes give, and where it is accepted it may be flown. Assumes nothing.
use Rattle.std.proofs.Common.{◌≡◌, ℕ, List, [], sym, refl, ap, ◌∙◌, subst, Result, Ok, Err}
use Rattle.airframe.specs.declared.Airframe.{Airframe}
use Rattle.airframe_block.proofs.Reading.{accepted-is-accepted}
use Rattle.airframe_block.specs.Block.{read_airframe_of}
use Rattle.answers.specs.Answers.{Answer}
use Rattle.answers.specs.declared.Refusal.{Refusal}
use Rattle.flight.specs.declared.Flight.{Flight}
use Rattle.state_block.proofs.Reading.{accepted-full}
use Rattle.state_block.specs.Layout.{read_full_of}
use Rattle.lines.specs.Opening.{FromBlock, FromBlocks, FromState, Ready, accepted, opened_by}
use Rattle.lines.specs.declared.opening.Opened.{Opened}

-- the airframe as it was read, and the state
abbrev airframe_read : List ℕ → Result Airframe Refusal
airframe_read s = accepted (read_airframe_of s).answer (read_airframe_of s).airframe

abbrev state_read : List ℕ → Result Flight Refusal
state_read s = accepted (read_full_of s).answer (read_full_of s).flight

-- a refused airframe ends it
pub ends : (refusal : Refusal) → FromBlock (Err refusal) → FromBlocks (Err refusal)
ends refusal b = record { block = b.block; state = []; same = ap (λ (x : Result Airframe Refusal). opened_by x (state_read [])) b.same }

-- behind an accepted one, what the state's bytes give
pub goes_on : (a : Airframe) (y : Result Flight Refusal) → FromBlock (Ok a) → FromState y → FromBlocks (opened_by (Ok a) y)
goes_on a y b f =
    record {
      block = b.block;
      state = f.state;
      same = ap (λ (x : Result Airframe Refusal). opened_by x y) b.same ∙ ap (opened_by (airframe_read b.block)) f.same;
    }

-- what is accepted may be flown
abbrev Good : Result Opened Refusal → Type 0
Good (Ok o) = Ready o.airframe o.flight
Good (Err refusal) = Unit {0}

opened-good : (s t : List ℕ) → Good (opened_by (airframe_read s) (state_read t))
unfolding accepted
opened-good s t = go (read_airframe_of s).answer (read_full_of t).answer refl refl
  where
    go :
        (x y : Answer)
        → (read_airframe_of s).answer ≡ x
        → (read_full_of t).answer ≡ y
        → Good (opened_by (accepted x (read_airframe_of s).airframe) (accepted y (read_full_of t).flight))
    go (Ok u) (Ok v) h k = record { airframe = accepted-is-accepted s h; state = accepted-full t k }
    go (Ok u) (Err x) h k = tt
    go (Err x) y h k = tt

pub opened-ready : (r : Result Opened Refusal) (o : Opened) → FromBlocks r → r ≡ Ok o → Ready o.airframe o.flight
opened-ready r o b e = subst Good (sym b.same ∙ e) (opened-good b.block b.state)

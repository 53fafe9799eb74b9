-- What stands before the ticks of an input: the airframe's block, and behind an accepted one the state's. Definitions only.
use Rattle.std.specs.Prelude.{◌≡◌, ℕ, List, Result, Ok, Err}
use Rattle.airframe.specs.Acceptance.{refused_place}
use Rattle.airframe.specs.declared.Airframe.{Airframe}
use Rattle.airframe_block.specs.Block.{Announced, header_bytes, read_airframe_of}
use Rattle.answers.specs.Answers.{Answer}
use Rattle.answers.specs.declared.Refusal.{Refusal}
use Rattle.flight.specs.Envelope.{outside_of}
use Rattle.flight.specs.declared.Flight.{Flight}
use Rattle.lines.specs.declared.opening.Opened.{Opened}
use Rattle.state_block.specs.Layout.{read_full_of}

-- how many bytes of an airframe block are read, by what its header announces: of a refused one no more than the header
unfoldable pub wanted_by : Announced → ℕ
wanted_by (Ok n) = n
wanted_by (Err refusal) = header_bytes

-- what a block gives, where its reply is 0
unfoldable pub accepted : {T : Type 0} → Answer → T → Result T Refusal
accepted (Ok u) x = Ok x
accepted (Err refusal) x = Err refusal

-- an airframe with the state that was read behind it
abbrev pub with_state : Airframe → Result Flight Refusal → Result Opened Refusal
with_state a (Ok f) = Ok (record { airframe = a; flight = f })
with_state a (Err refusal) = Err refusal

-- what the two reads give: behind a refused airframe there is no state
abbrev pub opened_by : Result Airframe Refusal → Result Flight Refusal → Result Opened Refusal
opened_by (Ok a) y = with_state a y
opened_by (Err refusal) y = Err refusal

-- an airframe is what some bytes give
pub record FromBlock (x : Result Airframe Refusal) : Type 0 where
  pub block : List ℕ
  pub same : x ≡ accepted (read_airframe_of block).answer (read_airframe_of block).airframe

-- a state is
pub record FromState (y : Result Flight Refusal) : Type 0 where
  pub state : List ℕ
  pub same : y ≡ accepted (read_full_of state).answer (read_full_of state).flight

-- and both are
pub record FromBlocks (r : Result Opened Refusal) : Type 0 where
  pub block : List ℕ
  pub state : List ℕ
  pub same :
      r
      ≡ opened_by
      (accepted (read_airframe_of block).answer (read_airframe_of block).airframe)
      (accepted (read_full_of state).answer (read_full_of state).flight)

-- what a program may fly: an airframe that no place refuses, and a state within the envelope
pub record Ready (a : Airframe) (f : Flight) : Type 0 where
  pub airframe : refused_place a ≡ 0
  pub state : outside_of f ≡ 0

-- Tick calls made one after another (01, demand 3), each fed what the last one left, after a refusal too. Said of any form of the
-- call: by value, over a lent record, or over the library's arrays. Definitions only.
use Rattle.std.specs.Prelude.{List, [], ◌∷◌, ◌≡◌}
use Rattle.airframe.specs.declared.Airframe.{Airframe}
use Rattle.flight.specs.declared.Flight.{Flight}
use Rattle.flight.specs.declared.Tick.{Tick}
use Rattle.wing.specs.Tick.{tick_of}
use Rattle.wing.specs.declared.TickResult.{TickResult}

-- two lists of one length, related element by element
pub data Each {X Y : Type 0} (R : X → Y → Type 0) : List X → List Y → Type 0 where
  each_none : Each R [] []
  each_more : {x : X} {y : Y} {xs : List X} {ys : List Y} → R x y → Each R xs ys → Each R (x ∷ xs) (y ∷ ys)

-- `Call x u o y`: a call that finds x and is given u answers o and leaves y. A chain: what the calls are given, what each one
-- answers, what is left last
pub data Chain {X U O : Type 0} (Call : X → U → O → X → Type 0) : X → List U → List O → X → Type 0 where
  chain-none : {x : X} → Chain Call x [] [] x
  chain_more : {x y z : X} {u : U} {o : O} {us : List U} {os : List O}
      → Call x u o y → Chain Call y us os z → Chain Call x (u ∷ us) (o ∷ os) z

-- the call by value, `wing::tick`: its answer is the report and the state it hands back, which the caller gives to the next
pub record ValueCall (a : Airframe) (f : Flight) (t : Tick) (k : TickResult) (g : Flight) : Type 0 where
  pub answered : k ≡ tick_of a f t
  pub left : g ≡ k.flight

-- the call over a lent record, `lent_tick::tick_in_place`: its report, and what the record holds afterwards, which the next call finds
pub record LentCall (a : Airframe) (f : Flight) (t : Tick) (k : TickResult) (g : Flight) : Type 0 where
  pub reported : k.report ≡ (tick_of a f t).report
  pub left : g ≡ (tick_of a f t).flight
  pub found : k.flight ≡ g

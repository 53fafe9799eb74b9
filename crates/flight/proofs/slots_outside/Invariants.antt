-- `flight::slots_outside` meets its contract. Assumes nothing.
use Rattle.flight.specs.Envelope.{slot_inside}
use Rattle.ordered.specs.Ordered.{first_fail}
use mathlib.Core.Path.{◌≡◌}
use Prim.Native.Nat.{◌-◌}
use Rattle.flight.proofs.slots_outside.Given as goal

abbrev pub invariant-loop-i : goal.invariant-loop-i
invariant-loop-i l = first_fail (slot_inside l.low l.high l.fn.values) 0 8 ≡ first_fail (slot_inside l.low l.high l.fn.values) l.i (8 - l.i)

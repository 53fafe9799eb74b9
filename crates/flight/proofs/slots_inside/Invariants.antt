-- `flight::slots_inside` meets its contract. Assumes nothing.
use Rattle.flight.specs.Envelope.{slot_inside}
use Rattle.ordered.specs.Ordered.{all_pass}
use mathlib.Core.Path.{◌≡◌}
use Rattle.flight.proofs.slots_inside.Given as goal

abbrev pub invariant-loop-value : goal.invariant-loop-value
invariant-loop-value l = l.ok ≡ all_pass (slot_inside l.low l.high l.fn.values) l.value-index

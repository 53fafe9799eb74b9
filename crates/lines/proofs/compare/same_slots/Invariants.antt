-- The slots so far are alike.
use Rattle.std.proofs.Common.{◌≡◌}
use Rattle.lines.specs.Compare.{same_slot}
use Rattle.ordered.specs.Ordered.{all_pass}
use Rattle.lines.proofs.compare.same_slots.Given as goal

abbrev pub invariant-loop-i : goal.invariant-loop-i
invariant-loop-i l = l.ok ≡ all_pass (same_slot l.xs l.ys) l.i

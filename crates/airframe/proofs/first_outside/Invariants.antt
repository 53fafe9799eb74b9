-- `airframe::first_outside` meets its contract. The invariant: the search from the start is the search from here. Assumes nothing.
use Prim.Native.Nat.{◌-◌}
use mathlib.Core.Path.{◌≡◌}
use Rattle.ordered.specs.Ordered.{first_fail}
use Rattle.airframe.specs.Acceptance.{inside_from}
use Rattle.airframe.proofs.first_outside.Given as goal

abbrev pub invariant-loop-i : goal.invariant-loop-i
invariant-loop-i l =
    first_fail (inside_from l.fn.limits l.fn.numbers l.fn.first) 0 l.fn.count
    ≡ first_fail (inside_from l.fn.limits l.fn.numbers l.fn.first) l.i (l.fn.count - l.i)

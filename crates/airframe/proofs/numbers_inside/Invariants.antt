-- `airframe::numbers_inside` meets its contract. The invariant: the numbers passed are all inside, or not all. Assumes nothing.
use mathlib.Core.Path.{◌≡◌}
use Rattle.ordered.specs.Ordered.{all_pass}
use Rattle.airframe.specs.Acceptance.{inside_from}
use Rattle.airframe.proofs.numbers_inside.Given as goal

abbrev pub invariant-loop-i : goal.invariant-loop-i
invariant-loop-i l = l.ok ≡ all_pass (inside_from l.fn.limits l.fn.numbers l.fn.first) l.i

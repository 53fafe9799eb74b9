-- `libm::sqrt::search` meets its contract: the root lies between lo and hi, which close in until they are neighbours. Assumes nothing.
use Prim.Native.Nat.{◌*◌, ◌+◌, ◌-◌, ◌<◌, ◌≤◌}
use Rattle.libm.proofs.sqrt.search.Given as goal

abbrev pub invariant-loop-hi : goal.invariant-loop-hi
invariant-loop-hi l = (8388608 ≤ l.lo) × (l.lo < l.hi) × (l.hi ≤ 16777216) × (l.lo * l.lo < l.s + l.lo) × (l.s + l.hi ≤ l.hi * l.hi)

abbrev pub decreases-loop-hi : goal.decreases-loop-hi
decreases-loop-hi l = l.hi - l.lo

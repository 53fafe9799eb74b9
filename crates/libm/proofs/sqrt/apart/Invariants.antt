-- `libm::sqrt::apart` meets its contract: the loop doubles m and lowers k, so m * 2 ^ k stays what it was, until m has all 24 digits. Assumes nothing.
use Prim.Native.Nat.{◌*◌, ◌<◌, ◌^◌, ◌≤◌}
use mathlib.Core.Path.{◌≡◌}
use Rattle.libm.proofs.sqrt.apart.Given as goal

abbrev pub invariant-loop-m : goal.invariant-loop-m
invariant-loop-m l = (l.m < 16777216) × (l.k ≤ 23) × (l.m * 2 ^ l.k ≡ l.b * 8388608)

abbrev pub decreases-loop-m : goal.decreases-loop-m
decreases-loop-m l = l.k

-- `libm::sqrt::apart` meets its contract: the loop doubles m and lowers k, so m * 2 ^ k stays what it was, until m has all 24 digits. Assumes nothing.
use Prim.Native.Nat.{◌≤◌}
use mathlib.Core.Path.{◌∙◌}
use native.Mathlib.Omega.{arith}
use Rattle.libm.proofs.RootValues.{doubled, normal-root, some_left, subnormal-root}
use Rattle.libm.proofs.sqrt.apart.Goals as goal

left : (c : goal.In-loop-m) → 1 ≤ c.loop-m.k
left c = some_left c.args.b c.loop-m.m c.loop-m.k (omega arith) (omega arith) c.loop-m.invariant.2

pub returns-then-b-ge8388608-clause-root : goal.returns-then-b-ge8388608-clause-root
returns-then-b-ge8388608-clause-root c = normal-root c.args.b (omega arith) (omega arith)

pub loop-m-preserved : goal.loop-m-preserved
loop-m-preserved c = (omega arith, omega arith, doubled c.loop-m.m c.loop-m.k (left c) ∙ c.loop-m.invariant.2)

pub returns-clause-root : goal.returns-clause-root
returns-clause-root c = subnormal-root c.args.b c.loop-m.m c.loop-m.k (omega arith) (omega arith) c.loop-m.invariant.2

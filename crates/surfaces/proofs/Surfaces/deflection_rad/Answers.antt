-- `surfaces::Surfaces::deflection_rad` meets its contract: after i iterations the sum is that of the first i slots. Assumes nothing.
use mathlib.Core.Path.{◌≡◌}
use native.Mathlib.Nat.{le_antisymm}
use Rattle.mixers.proofs.Slots.{vec-sum-more}
use Rattle.mixers.specs.Slots.{vec_sum_to}
use Rattle.surfaces.specs.Surface.{deflection_at, deflection_rad}
use Rattle.surfaces.proofs.Surfaces.deflection_rad.Goals as goal

pub loop-i-init : goal.loop-i-init
unfolding vec_sum_to
loop-i-init c = c.zeros-unit.ensures

pub loop-i-preserved : goal.loop-i-preserved
unfolding deflection_at
loop-i-preserved c =
    vec-sum-more _ c.loop-i.i c.loop-i.unit c.mul.result c.add-unit.result c.loop-i.invariant c.mul.ensures c.add-unit.ensures

pub returns : goal.returns
unfolding deflection_rad
returns c =
    let e : c.loop-i.i ≡ 8 = le_antisymm c.loop-i.auto.i-end c.loop-i-test.false in
    rw (c.component_mul.ensures, c.loop-i.invariant, e)

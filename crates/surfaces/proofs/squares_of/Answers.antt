-- `surfaces::squares_of` meets its contract: after i iterations the sum is that of the first i slots. Assumes nothing.
use mathlib.Core.Path.{◌≡◌}
use native.Mathlib.Nat.{le_antisymm}
use Rattle.mixers.proofs.Slots.{vec-sum-more}
use Rattle.mixers.specs.Slots.{vec_sum_to}
use Rattle.surfaces.specs.Surface.{square_at, squares_of}
use Rattle.surfaces.proofs.squares_of.Goals as goal

pub loop-f-init : goal.loop-f-init
unfolding vec_sum_to
loop-f-init c = c.zeros-sum.ensures

pub loop-f-preserved : goal.loop-f-preserved
unfolding square_at
loop-f-preserved c =
    vec-sum-more _ c.loop-f.f-index c.loop-f.sum c.component_mul.result c.add-sum.result c.loop-f.invariant
    c.component_mul.ensures c.add-sum.ensures

pub returns : goal.returns
unfolding squares_of
returns c =
    let e : c.loop-f.f-index ≡ 8 = le_antisymm c.loop-f.auto.f-index-end c.loop-f-test.false in
    rw (c.loop-f.invariant, e)

-- `arrays::put_airframe` meets its contract. Assumes nothing.
use borrow.Author.Rules.{rules}
use lib.Ieee.{nan}
use native.Mathlib.Omega.{arith}
use Rattle.mixers.proofs.Filling.{reach-end, reach-more, reach-start}
use Rattle.arrays.specs.Airframe.{airframe_numbers, airframe_numbers_count}
use Rattle.arrays.proofs.put_airframe.Goals as goal

pub loop-k-init : goal.loop-k-init
loop-k-init c = reach-start _ _ _ _ (search rules)

pub loop-k-preserved : goal.loop-k-preserved
loop-k-preserved c =
    reach-more airframe_numbers_count nan _ _ c.loop-k.xs c.loop-k.k c.airframe_number.result c.airframe_number.ensures (search rules) c.loop-k.invariant

pub returns : goal.returns
unfolding airframe_numbers
returns c =
    reach-end airframe_numbers_count nan _ _ c.loop-k.xs c.loop-k.k c.loop-k.invariant
    (λ k l m. absurd (omega (arith, l, m, c.loop-k-test.false, c.requires)))

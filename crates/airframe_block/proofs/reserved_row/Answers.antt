-- `airframe_block::reserved_row` meets its contract. Assumes nothing.
use mathlib.Core.Path.{◌∙◌, sym}
use Rattle.ordered.proofs.Ordered.{fail-end, fail-here, fail-next, from_start, here-some, zero-none}
use Rattle.airframe_block.specs.Block.{reserved_row, row_clear}
use Rattle.airframe_block.proofs.reserved_row.Goals as goal

pub loop-k-init : goal.loop-k-init
loop-k-init c = from_start _ _

pub returns-then-not-bits_clear : goal.returns-then-not-bits_clear
unfolding reserved_row row_clear
returns-then-not-bits_clear c =
    sym (here-some _ c.loop-k.k (c.loop-k.invariant ∙ fail-here _ c.loop-k.k _ c.loop-k-test.true (sym c.bits_clear.ensures ∙ c.if-not-bits_clear.true)))

pub loop-k-preserved : goal.loop-k-preserved
unfolding row_clear
loop-k-preserved c =
    c.loop-k.invariant ∙ fail-next _ c.loop-k.k _ c.loop-k-test.true (sym c.bits_clear.ensures ∙ c.if-not-bits_clear.false)

pub returns : goal.returns
unfolding reserved_row
returns c = sym (zero-none _ (c.loop-k.invariant ∙ fail-end _ c.loop-k.k _ c.loop-k-test.false))

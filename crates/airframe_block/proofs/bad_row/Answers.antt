-- `airframe_block::bad_row` meets its contract. Assumes nothing.
use Prim.Native.Nat.{◌<◌, ◌≤◌}
use borrow.Author.Rules.{rules}
use mathlib.Core.Path.{◌∙◌, ap, sym}
use Rattle.std.proofs.lemmas.List.{get_or-take}
use Rattle.mixers.specs.Rows.{live_of, no_row}
use Rattle.ordered.proofs.Ordered.{fail-end, fail-here, fail-next, from_start, here-some, zero-none}
use Rattle.airframe_block.specs.Block.{bad_row, row_fits, row_fits_at}
use Rattle.airframe_block.proofs.bad_row.Goals as goal

pub loop-k-init : goal.loop-k-init
unfolding bad_row
loop-k-init c = from_start _ _

pub returns-then-not-row_fits : goal.returns-then-not-row_fits
unfolding row_fits_at
returns-then-not-row_fits c =
    let rows = c.args.rows in
    let k = c.loop-k.k in
    let within : k < c.live.result = search rules in
    let live : k < live_of rows = rw (sym c.live.ensures.value) within in
    let tested = c.row_fits.ensures ∙ ap row_fits (get_or-take c.live.result rows.rows k no_row within) in
    sym (here-some _ k (c.loop-k.invariant ∙ fail-here _ k _ live (sym tested ∙ c.if-not-row_fits.true)))

pub loop-k-preserved : goal.loop-k-preserved
unfolding row_fits_at
loop-k-preserved c =
    let rows = c.args.rows in
    let k = c.loop-k.k in
    let within : k < c.live.result = search rules in
    let live : k < live_of rows = rw (sym c.live.ensures.value) within in
    let tested = c.row_fits.ensures ∙ ap row_fits (get_or-take c.live.result rows.rows k no_row within) in
    c.loop-k.invariant ∙ fail-next _ k _ live (sym tested ∙ c.if-not-row_fits.false)

pub returns : goal.returns
returns c =
    let done : c.live.result ≤ c.loop-k.k = search rules in
    sym (zero-none _ (c.loop-k.invariant ∙ fail-end _ c.loop-k.k _ (rw (sym c.live.ensures.value) done)))

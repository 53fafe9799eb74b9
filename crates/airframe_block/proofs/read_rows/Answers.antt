-- `airframe_block::read_rows` meets its contract. Assumes nothing.
use borrow.Author.Rules.{rules}
use lib.Ieee.{of_bits}
use lib.ListN.{drop, replicate}
use mathlib.Core.List.{List, ◌++◌}
use mathlib.Core.Path.{◌∙◌, ◌≡◌, ap, refl}
use Rattle.mixers.specs.declared.MixRow.{MixRow}
use Rattle.airframe_block.specs.Block.{empty_row, put_rows, rows_from}
use Rattle.airframe_block.proofs.Segments.{rows-put_first, rows_more}
use Rattle.airframe_block.proofs.read_rows.Goals as goal

pub loop-k-init : goal.loop-k-init
unfolding put_rows
loop-k-init c = refl

pub loop-k-preserved : goal.loop-k-preserved
loop-k-preserved c = rows_more _ _ _ c.loop-k.k c.loop-k.row-items c.read_row.result c.loop-k.invariant c.read_row.ensures

pub returns : goal.returns
unfolding rows_from of_bits
returns c =
    let n = c.args.count in
    let e : c.loop-k.k ≡ n = search rules in
    let all = replicate 16 empty_row in
    ap (λ (rows : List MixRow). record { rows = rows; count = n }) (
    ap (λ (items : List MixRow). items ++ drop n all) (c.loop-k.invariant ∙ ap (put_rows _ _ _) e)
    ∙ rows-put_first c.args.s.now c.args.start all n (search rules)
    )

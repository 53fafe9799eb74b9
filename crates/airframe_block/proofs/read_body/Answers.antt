-- `airframe_block::read_body` meets its contract. Assumes nothing.
use mathlib.Core.Path.{◌∙◌, ap, ap₂, sym}
use Prim.Native.Nat.{ℕ}
use native.Mathlib.Omega.{arith}
use Rattle.std.specs.Prelude.{is_some}
use Rattle.ordered.proofs.Ordered.{is-some-not-zero, not-some-zero}
use Rattle.ordered.specs.Ordered.{unless_zero}
use Rattle.airframe_block.proofs.Order.{body-read, body_refused}
use Rattle.airframe_block.specs.Block.{airframe_by, bytes_of, tested_block, read_rows, reserved_row, rows_from}
use Rattle.airframe_block.proofs.read_body.Goals as goal

pub reserved_row-requires-clause-rows_bound : goal.reserved_row-requires-clause-rows_bound
unfolding bytes_of
reserved_row-requires-clause-rows_bound c = omega arith

pub reserved_row-requires-clause-bytes_within : goal.reserved_row-requires-clause-bytes_within
unfolding bytes_of
reserved_row-requires-clause-bytes_within c = omega arith

pub returns-then-is_some : goal.returns-then-is_some
returns-then-is_some c =
    let a = c.args in
    let set =
    sym
    (c.is_some.ensures
    ∙ ap is_some
    (c.reserved_row.ensures ∙ ap (λ (z : ℕ). unless_zero (reserved_row a.s.now a.h.lift z a.h.rows)) c.rows_at-start.ensures.value)) in
    c.refused.ensures ∙ body_refused a.s.now a.h (is-some-not-zero _ (set ∙ c.if-is_some.true))

pub read_rows-rows-requires-clause-rows_bound : goal.read_rows-rows-requires-clause-rows_bound
unfolding bytes_of
read_rows-rows-requires-clause-rows_bound c = omega arith

pub read_rows-rows-requires-clause-bytes_within : goal.read_rows-rows-requires-clause-bytes_within
unfolding bytes_of
read_rows-rows-requires-clause-bytes_within c = omega arith

pub read_numbers-xs-requires : goal.read_numbers-xs-requires
unfolding bytes_of
read_numbers-xs-requires c = omega arith

pub returns : goal.returns
unfolding read_rows
returns c =
    let r = c in
    let b = r.before.before in
    let a = b.args in
    let n = c in
    let rows = r.read_rows-rows.ensures ∙ ap (λ z. rows_from a.s.now z a.h.rows) b.rows_at-start.ensures.value in
    let numbers = n.read_numbers-xs.ensures in
    let set =
    sym
    (c.is_some.ensures
    ∙ ap is_some
    (c.reserved_row.ensures ∙ ap (λ (z : ℕ). unless_zero (reserved_row a.s.now a.h.lift z a.h.rows)) c.rows_at-start.ensures.value)) in
    c.tested.ensures
    ∙ ap₂ tested_block (c.airframe_by.ensures ∙ ap₂ (λ x y. airframe_by x a.h y) numbers rows) rows
    ∙ body-read a.s.now a.h (not-some-zero _ (set ∙ r.if-is_some.false))

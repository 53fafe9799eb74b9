-- `airframe_block::read_airframe` meets its contract. Assumes nothing.
use mathlib.Core.Path.{◌∙◌, sym}
use native.Mathlib.Omega.{arith}
use borrow.Author.Tests.{lt-ltb}
use Rattle.airframe_block.proofs.Order.{by-header, by_said, header_refused, length-read, length-refused}
use Rattle.airframe_block.proofs.Small.{announced-bytes, small-header}
use Rattle.airframe_block.specs.Block.{read_airframe_of}
use Rattle.airframe_block.proofs.read_airframe.Goals as goal

pub returns-then-n-lt-HEADER_BYTES : goal.returns-then-n-lt-HEADER_BYTES
unfolding read_airframe_of
returns-then-n-lt-HEADER_BYTES c = c.refused.ensures ∙ (simp (lt-ltb _ _ c.if-n-lt-HEADER_BYTES.true))

pub announced-requires : goal.announced-requires
announced-requires c = small-header _ _ _ c.header_of-h.ensures

-- the length is not the one announced
pub returns-then-n-to : goal.returns-then-n-to
returns-then-n-to c =
    let said = c in
    let a = c in
    let h = c in
    by-header _ h.header_of-h.result _ h.if-n-lt-HEADER_BYTES.false h.header_of-h.ensures
    (by_said _ _ _ _ (sym c.in-Ok.is ∙ a.announced.ensures) (c.refused-then-n-to.ensures ∙ length-refused _ _ _ c.if-n-to.true))

pub read_body-requires : goal.read_body-requires
read_body-requires c =
    let said = c in
    let a = c in
    let n = announced-bytes _ _ (sym a.announced.ensures ∙ c.in-Ok.is) in
    record {
      rows_bound = n.1;
      bytes_within = omega (arith, c.if-n-to.false, n.0);
    }

-- the header is refused
pub returns-in-Err : goal.returns-in-Err
returns-in-Err c =
    let said = c in
    let a = c in
    let h = c in
    by-header _ h.header_of-h.result _ h.if-n-lt-HEADER_BYTES.false h.header_of-h.ensures
    (by_said _ _ _ _ (sym said.in-Err.is ∙ a.announced.ensures) (c.refused-in-Err.ensures ∙ header_refused _ _ _))

-- the rest is read
pub returns-else-n-to : goal.returns-else-n-to
returns-else-n-to c =
    let said = c in
    let a = c in
    let h = c in
    by-header _ h.header_of-h.result _ h.if-n-lt-HEADER_BYTES.false h.header_of-h.ensures
    (by_said _ _ _ _ (sym c.in-Ok.is ∙ a.announced.ensures) (c.read_body.ensures ∙ length-read _ _ _ c.if-n-to.false))

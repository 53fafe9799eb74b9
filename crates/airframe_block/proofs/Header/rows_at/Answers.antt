-- `airframe_block::Header::rows_at` meets its contract. Assumes nothing.
use Prim.Native.Nat.{◌+◌, ℕ}
use mathlib.Core.Path.{◌∙◌, ap, ap₂, sym}
use native.Mathlib.Omega.{arith}
use Rattle.airframe_block.specs.Block.{header_bytes, segment_bytes}
use Rattle.airframe_block.proofs.Segments.{base-bytes, base-holds, few, lift-bytes, lift-holds, rows-at-is, wash-bytes, wash-holds}
use Rattle.airframe_block.proofs.Header.rows_at.Goals as goal

pub segment_bytes-base-requires : goal.segment_bytes-base-requires
segment_bytes-base-requires c = few c.base.result (base-holds c.base.result c.base.ensures)

pub segment_bytes-wash-requires : goal.segment_bytes-wash-requires
segment_bytes-wash-requires c = few c.wash.result (wash-holds c.wash.result _ c.wash.ensures)

pub segment_bytes-lift-requires : goal.segment_bytes-lift-requires
segment_bytes-lift-requires c = few c.lift.result (lift-holds c.lift.result _ c.lift.ensures)

pub overflow_add-result : goal.overflow_add-result
overflow_add-result c =
    let b = c in
    let base = b.segment_bytes-base.ensures.value ∙ base-bytes _ b.base.ensures in
    record { fits = omega (arith, base) }

pub overflow_add-result-2 : goal.overflow_add-result-2
overflow_add-result-2 c =
    let w = c in
    let b = w.before.before in
    let base = b.segment_bytes-base.ensures.value ∙ base-bytes _ b.base.ensures in
    let wash = wash-bytes _ _ w.wash.ensures in
    record { fits = omega (arith, base, wash, w.segment_bytes-wash.ensures.value) }

pub overflow_add-result-3 : goal.overflow_add-result-3
overflow_add-result-3 c =
    let w = c in
    let b = w.before.before in
    let base = b.segment_bytes-base.ensures.value ∙ base-bytes _ b.base.ensures in
    let wash = wash-bytes _ _ w.wash.ensures in
    let lift = lift-bytes _ _ c.lift.ensures in
    record { fits = omega (arith, base, wash, lift, w.segment_bytes-wash.ensures.value, c.segment_bytes-lift.ensures.value) }

pub returns : goal.returns
returns c =
    let w = c in
    let b = w.before.before in
    let base = b.segment_bytes-base.ensures.value ∙ ap segment_bytes b.base.ensures in
    let wash = w.segment_bytes-wash.ensures.value ∙ ap segment_bytes w.wash.ensures in
    let lift = c.segment_bytes-lift.ensures.value ∙ ap segment_bytes c.lift.ensures in
    let few-base = b.segment_bytes-base.ensures.value ∙ base-bytes _ b.base.ensures in
    let few-wash = wash-bytes _ _ w.wash.ensures in
    let few-lift = lift-bytes _ _ c.lift.ensures in record {
      value = ap₂ (λ (x y : ℕ). x + y) (ap₂ (λ (x y : ℕ). header_bytes + x + y) base wash) lift ∙ sym (rows-at-is _);
      upper_bound = omega (arith, few-base, few-wash, few-lift, w.segment_bytes-wash.ensures.value, c.segment_bytes-lift.ensures.value);
    }

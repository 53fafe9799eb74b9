-- `airframe_block::read_numbers` meets its contract. Assumes nothing.
use lib.Ieee.{of_bits}
use mathlib.Core.Path.{◌∙◌, ap}
use native.Mathlib.Omega.{arith}
use Rattle.airframe_block.specs.Block.{numbers_from, put_segments, segment_bytes, segments_of}
use Rattle.airframe_block.proofs.Segments.{base-bytes, base-holds, few, lift-holds, rows-at-is, wash-bytes, wash-holds}
use Rattle.airframe_block.proofs.read_numbers.Goals as goal

pub segment_bytes-wash_at-requires : goal.segment_bytes-wash_at-requires
segment_bytes-wash_at-requires c =
    let b = c in
    few b.base-base.result (base-holds b.base-base.result b.base-base.ensures)

pub overflow_add-wash_at : goal.overflow_add-wash_at
overflow_add-wash_at c = record { fits = omega (arith, c.segment_bytes-wash_at.ensures.value ∙ base-bytes _ c.base-base.ensures) }

pub segment_bytes-requires : goal.segment_bytes-requires
segment_bytes-requires c =
    let w = c in
    few w.wash-wash.result (wash-holds w.wash-wash.result _ w.wash-wash.ensures)

pub overflow_add-lift_at : goal.overflow_add-lift_at
overflow_add-lift_at c =
    let w = c in
    let base = c.segment_bytes-wash_at.ensures.value ∙ base-bytes _ w.base-base.ensures in
    record { fits = omega (arith, base, wash-bytes _ _ w.wash-wash.ensures, c.segment_bytes.ensures.value) }

pub read_segment-numbers-requires : goal.read_segment-numbers-requires
read_segment-numbers-requires c =
    let b = c in
    let h = b.args.h in
    record {
      numbers_within = base-holds b.base-base.result b.base-base.ensures;
      bytes_within = omega (arith, rows-at-is h, ap segment_bytes b.base-base.ensures);
    }

pub read_segment-washed-requires : goal.read_segment-washed-requires
read_segment-washed-requires c =
    let n = c in
    let w = n.before.before in
    let b = w.before in
    let h = b.args.h in record {
      numbers_within = wash-holds w.wash-wash.result _ w.wash-wash.ensures;
      bytes_within = omega (arith, rows-at-is h, ap segment_bytes b.base-base.ensures, ap segment_bytes w.wash-wash.ensures, n.segment_bytes-wash_at.ensures.value);
    }

pub read_segment-requires : goal.read_segment-requires
read_segment-requires c =
    let m = c in
    let n = m.before in
    let l = n.before in
    let w = l.before in
    let b = w.before in
    let h = b.args.h in record {
      numbers_within = lift-holds l.lift-lift.result _ l.lift-lift.ensures;
      bytes_within = omega (
        arith,
        rows-at-is h,
        ap segment_bytes b.base-base.ensures,
        ap segment_bytes w.wash-wash.ensures,
        ap segment_bytes l.lift-lift.ensures,
        n.segment_bytes-wash_at.ensures.value,
        m.segment_bytes.ensures.value,
      );
    }

pub returns : goal.returns
unfolding numbers_from put_segments segments_of of_bits
returns c =
    let m = c in
    let l = m.before.before in
    simp (
      c.read_segment.ensures,
      c.read_segment-washed.ensures,
      c.read_segment-numbers.ensures,
      m.segment_bytes.ensures.value,
      m.segment_bytes-wash_at.ensures.value,
      l.lift-lift.ensures,
      l.wash-wash.ensures,
      l.base-base.ensures,
    )

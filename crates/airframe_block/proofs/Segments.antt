-- The parts of a block: how many numbers a segment has, where the next one begins, and one iteration of the loops that read numbers and rows. Assumes nothing.
use Prim.Native.Nat.{◌*◌, ◌+◌, ◌<◌, ◌≤◌, suc, zero, ℕ}
use lib.Ieee.{Float}
use lib.ListN.{drop, length, length-set, set, take, take-append-drop}
use mathlib.Core.Bool.{Bool, cond, false, true}
use mathlib.Core.List.{List, ◌++◌}
use mathlib.Core.Path.{◌∙◌, ◌≡◌, ap, ap₂, refl, subst, sym}
use native.Mathlib.Numerals.{add-one}
use native.Mathlib.Omega.{arith}
use Rattle.std.proofs.lemmas.List.{length-take-le, set-append_left}
use Rattle.airframe.specs.Numbers.{base_count, base_segment, lift_count, lift_segment, numbers_count, wash_count, wash_segment}
use Rattle.airframe.specs.declared.numbers.Segment.{Segment}
use Rattle.mixers.specs.declared.MixRow.{MixRow}
use Rattle.block_parts.specs.Parts.{float_at, number_bytes}
use Rattle.airframe_block.specs.Block.{bytes_of, header_bytes, most_bytes, put_numbers, put_rows, row_bytes, row_from, rows_at}
use Rattle.airframe_block.specs.Block.{segment_bytes, segments_end, segments_of}
use Rattle.airframe_block.specs.declared.Header.{Header}

-- what reading asks of a segment
abbrev pub Holds : Segment → Type 0
Holds x = x.first + x.count ≤ numbers_count

pub base-holds : (x : Segment) → x ≡ base_segment → Holds x
base-holds x e = subst Holds (sym e) (omega arith)

pub wash-holds : (x : Segment) (present : Bool) → x ≡ wash_segment present → Holds x
wash-holds x present e = subst Holds (sym e) (omega arith)

pub lift-holds : (x : Segment) (present : Bool) → x ≡ lift_segment present → Holds x
lift-holds x present e = subst Holds (sym e) (omega arith)

pub few : (x : Segment) → Holds x → x.count ≤ numbers_count
few x h = omega (arith, h)

-- its bytes
pub base-bytes : (x : Segment) → x ≡ base_segment → segment_bytes x ≡ number_bytes * base_count
unfolding segment_bytes
base-bytes x e = ap segment_bytes e

segment-bytes-at-most : (x : Segment) → segment_bytes x ≤ number_bytes * x.count
unfolding segment_bytes
segment-bytes-at-most x = go x.present
  where
    go : (t : Bool) → cond t (number_bytes * x.count) 0 ≤ number_bytes * x.count
    go true = omega arith
    go false = omega arith

pub wash-bytes : (x : Segment) (present : Bool) → x ≡ wash_segment present → segment_bytes x ≤ number_bytes * wash_count
wash-bytes x present e = subst (λ (y : Segment). segment_bytes y ≤ number_bytes * wash_count) (sym e) (segment-bytes-at-most (wash_segment present))

pub lift-bytes : (x : Segment) (present : Bool) → x ≡ lift_segment present → segment_bytes x ≤ number_bytes * lift_count
lift-bytes x present e = subst (λ (y : Segment). segment_bytes y ≤ number_bytes * lift_count) (sym e) (segment-bytes-at-most (lift_segment present))

pub present-bytes : (x : Segment) → x.present ≡ true → segment_bytes x ≡ number_bytes * x.count
unfolding segment_bytes
present-bytes x e = rw e

-- where the rows begin, segment by segment
pub rows-at-is : (h : Header) → rows_at h ≡ header_bytes + segment_bytes base_segment + segment_bytes (wash_segment h.wash) + segment_bytes (lift_segment h.lift)
unfolding rows_at segments_end segments_of
rows-at-is h = refl

-- a block's length
pub bytes-within : (h : Header) → h.rows ≤ 31 → (header_bytes ≤ bytes_of h) × (bytes_of h ≤ most_bytes)
unfolding bytes_of
bytes-within h l =
    let base = base-bytes base_segment refl in
    let wash = wash-bytes (wash_segment h.wash) h.wash refl in
    let lift = lift-bytes (lift_segment h.lift) h.lift refl in
    (omega (arith, rows-at-is h, base), omega (arith, rows-at-is h, base, wash, lift, l))

-- one number more, in a loop over a segment's
pub numbers_more : (s : List ℕ) (i : ℕ) (xs : List Float) (j n : ℕ) (out : List Float) (x : Float)
    → out ≡ put_numbers s i xs j n → x ≡ float_at s (i + number_bytes * n) → set out (j + n) x ≡ put_numbers s i xs j (n + 1)
unfolding put_numbers
numbers_more s i xs j n out x e h = ap₂ (λ (o : List Float) (y : Float). set o (j + n) y) e h ∙ ap (put_numbers s i xs j) (sym (add-one n))

-- one row more, in a loop over the rows
pub rows_more : (s : List ℕ) (start : ℕ) (rows : List MixRow) (n : ℕ) (out : List MixRow) (row : MixRow)
    → out ≡ put_rows s start rows n → row ≡ row_from s (start + row_bytes * n) → set out n row ≡ put_rows s start rows (n + 1)
unfolding put_rows
rows_more s start rows n out row e h = ap₂ (λ (o : List MixRow) (r : MixRow). set o n r) e h ∙ ap (put_rows s start rows) (sym (add-one n))

-- rows put into the first elements of a list
module _ (s : List ℕ) (start : ℕ) where
  length-put_rows : (rows : List MixRow) (n : ℕ) → length (put_rows s start rows n) ≡ length rows
  unfolding put_rows
  length-put_rows rows zero = refl
  length-put_rows rows (suc n) = length-set (put_rows s start rows n) n _ ∙ length-put_rows rows n

  rows-before : (rows more : List MixRow) (n : ℕ) → n ≤ length rows → put_rows s start (rows ++ more) n ≡ put_rows s start rows n ++ more
  unfolding put_rows
  rows-before rows more zero l = refl
  rows-before rows more (suc n) l =
      let long : n < length (put_rows s start rows n) = omega (arith, length-put_rows rows n) in
      ap (λ (o : List MixRow). set o n (row_from s (start + row_bytes * n))) (rows-before rows more n (omega arith))
      ∙ set-append_left (put_rows s start rows n) more n _ long

  pub rows-put_first : (rows : List MixRow) (n : ℕ) → n ≤ length rows → put_rows s start (take n rows) n ++ drop n rows ≡ put_rows s start rows n
  rows-put_first rows n l =
      sym (rows-before (take n rows) (drop n rows) n (omega (arith, length-take-le n rows l)))
      ∙ ap (λ (o : List MixRow). put_rows s start o n) (take-append-drop n rows)

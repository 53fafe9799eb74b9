-- The airframe block (01, "Blocks", "Airframe"; 02, 5): what its bits and bytes say, and what reading it gives. A block's bytes are a
-- list of numbers below 256. Definitions only.
use Prim.Native.Nat as Nat
use Rattle.std.specs.Prelude.{Ok, Err, Result, ◌%◌, ◌*◌, ◌+◌, ◌/◌, suc, ℕ, eqb, ltb, Float}
use Rattle.std.specs.Prelude.{get_or, length, replicate, set, Bool, cond, false, not, true, List, [], ◌∷◌}
use Rattle.std.specs.Float.Ieee.{eq}
use Rattle.airframe.specs.Acceptance.{lowest_place}
use Rattle.airframe.specs.FromNumbers.{airframe_of, lift_constant, lift_layout_of, motor_constant, motor_layout_of, zero_airframe}
use Rattle.airframe.specs.Numbers.{base_segment, lift_segment, numbers_count, wash_segment, zero_numbers}
use Rattle.airframe.specs.declared.Airframe.{Airframe}
use Rattle.airframe.specs.declared.numbers.Segment.{Segment}
use Rattle.answers.specs.declared.Refusal.{Refusal}
use Rattle.answers.specs.declared.Refusal.TheVariants.{NumberOutOfRange, ReservedBit}
use Rattle.answers.specs.Answers.{done}
use Rattle.answers.specs.declared.Refusal.TheVariants.{TooManyRows, WrongFalloff, WrongLength, WrongVersion}
use Rattle.float.specs.Bytes.{byte_at}
use Rattle.float.specs.Interval.{inside}
use Rattle.float.specs.Notation.{zero, rounded, abs}
use Rattle.ordered.specs.Ordered.{first_fail}
use Rattle.mixers.specs.Rows.{live_of, most_rows, no_row}
use Rattle.mixers.specs.declared.MixRow.{MixRow}
use Rattle.mixers.specs.declared.Rows.{Rows}
use Rattle.mixers.specs.declared.Slot.{Slot}
use Rattle.mixers.specs.declared.Slot.TheVariants.{Lift, Motor, Servo}
use Rattle.motors.specs.Motor.{group_of, lift_group_of}
use Rattle.block_parts.specs.Parts.{float_at, number_bytes}
use Rattle.surfaces.specs.Surface.{surfaces_of}
use Rattle.airframe_block.specs.declared.AirframeRead.{AirframeRead}
use Rattle.airframe_block.specs.declared.Header.{Header}

-- ---- lengths in bytes
abbrev pub header_bytes : ℕ
header_bytes = 2

abbrev pub row_bytes : ℕ
row_bytes = 13

-- the longest block that a header can announce: the five bits of its row count go up to 31
abbrev pub most_bytes : ℕ
most_bytes = header_bytes + number_bytes * numbers_count + row_bytes * 31

-- ---- the header, bytes a and b, from the top bit down: 4 bits of version, 2 of the falloff's kind, 1 for a wash, 1 for lift
-- numbers, 3 reserved, 5 of the row count
unfoldable pub header_of : ℕ → ℕ → Header
header_of a b = record {
  version = a / 16;
  kind = a / 4 % 4;
  wash = eqb (a / 2 % 2) 1;
  lift = eqb (a % 2) 1;
  reserved = b / 32;
  rows = b % 32;
}

-- ---- after it the segments of the numbers, one after the other: an absent one has no bytes
unfoldable pub segments_of : Header → List Segment
segments_of h = base_segment ∷ wash_segment h.wash ∷ lift_segment h.lift ∷ []

unfoldable pub segment_bytes : Segment → ℕ
segment_bytes x = cond x.present (number_bytes * x.count) 0

-- where the segments that begin at byte i end
unfoldable pub segments_end : ℕ → List Segment → ℕ
segments_end i [] = i
segments_end i (x ∷ more) = segments_end (i + segment_bytes x) more

-- after them the rows
unfoldable pub rows_at : Header → ℕ
rows_at h = segments_end header_bytes (segments_of h)

-- 166 bytes, 28 more with a wash, 24 more with lift numbers, 13 more for each row
unfoldable pub bytes_of : Header → ℕ
bytes_of h = rows_at h + row_bytes * h.rows

-- how many bytes a block has, or why it is refused whatever follows its header
abbrev pub Announced : Type 0
Announced = Result ℕ Refusal

-- what the header announces: version (2), falloff kind (3), reserved bits (4), row count (5), else the block's length
unfoldable pub announced_by : Header → Announced
announced_by h =
    cond (not (eqb h.version 1)) (Err WrongVersion)
    (cond (ltb 1 h.kind) (Err WrongFalloff)
    (cond (not (eqb h.reserved 0)) (Err ReservedBit)
    (cond (ltb most_rows h.rows) (Err TooManyRows) (Ok (bytes_of h)))))

abbrev pub announced_of : ℕ → ℕ → Announced
announced_of a b = announced_by (header_of a b)

-- ---- the numbers: 0, but for those of the segments that are there

-- the first n numbers of a segment, those from byte i of the block on to the indexes from j on
unfoldable pub put_numbers : List ℕ → ℕ → List Float → ℕ → ℕ → List Float
put_numbers s i xs j Nat.zero = xs
put_numbers s i xs j (suc n) = set (put_numbers s i xs j n) (j + n) (float_at s (i + number_bytes * n))

unfoldable pub put_segment : List ℕ → ℕ → List Float → Segment → List Float
put_segment s i xs x = cond x.present (put_numbers s i xs x.first x.count) xs

unfoldable pub put_segments : List ℕ → ℕ → List Float → List Segment → List Float
put_segments s i xs [] = xs
put_segments s i xs (x ∷ more) = put_segments s (i + segment_bytes x) (put_segment s i xs x) more

unfoldable pub numbers_from : List ℕ → Header → List Float
numbers_from s h = put_segments s header_bytes zero_numbers (segments_of h)

-- ---- rows: a byte with the kind in bit 7, 1 for a servo, the slot in bits 6..4, 1 for a lift rotor in bit 3 (02, 5) and 0 in the
-- others; then three factors

unfoldable pub slot_of : ℕ → Slot
slot_of b =
    cond (eqb (b / 128) 0)
    (cond (eqb (b / 8 % 2) 0) (Motor (b / 16 % 8)) (Lift (b / 16 % 8)))
    (Servo (b / 16 % 8))

-- the row whose bytes begin at i
unfoldable pub row_from : List ℕ → ℕ → MixRow
row_from s i = record { slot = slot_of (byte_at s i); roll = float_at s (i + 1); pitch = float_at s (i + 5); yaw = float_at s (i + 9) }

-- the first n of the rows whose bytes begin at `start`, put into an array one after the other
unfoldable pub put_rows : List ℕ → ℕ → List MixRow → ℕ → List MixRow
put_rows s start rows Nat.zero = rows
put_rows s start rows (suc n) = set (put_rows s start rows n) n (row_from s (start + row_bytes * n))

-- an array of empty rows to put them into
abbrev pub empty_row : MixRow
empty_row = record { slot = Motor 0; roll = zero; pitch = zero; yaw = zero }

unfoldable pub rows_from : List ℕ → ℕ → ℕ → Rows
rows_from s start count = record { rows = put_rows s start (replicate most_rows empty_row) count; count = count }

-- a row's byte has none of its three reserved bits, and its lift bit only on a motor's row and where there are lift numbers
unfoldable pub bits_clear : Bool → ℕ → Bool
bits_clear lift b = cond (eqb (b % 8) 0) (cond (eqb (b / 8 % 2) 0) true (cond (eqb (b / 128) 0) lift false)) false

unfoldable pub row_clear : List ℕ → Bool → ℕ → ℕ → Bool
row_clear s lift start k = bits_clear lift (byte_at s (start + row_bytes * k))

-- the first row, counted from 1, with a bit set that must not be; 0 for none
unfoldable pub reserved_row : List ℕ → Bool → ℕ → ℕ → ℕ
reserved_row s lift start count = first_fail (row_clear s lift start) 0 count

-- ---- place 49 (01, "Airframe numbers by place"): a factor is 0 or of a size from 0.01 to 10; every row is tested, also one that a
-- later row of its slot overwrites
unfoldable pub factor_fits : Float → Bool
factor_fits x = cond (eq x zero) true (inside (rounded 1 100) (rounded 10 1) (abs x))

unfoldable pub row_fits : MixRow → Bool
row_fits r = cond (factor_fits r.roll) (cond (factor_fits r.pitch) (factor_fits r.yaw) false) false

unfoldable pub row_fits_at : List MixRow → ℕ → Bool
row_fits_at rows k = row_fits (get_or rows k no_row)

-- the first of the rows, counted from 1, with a bad factor; 0 for none
unfoldable pub bad_row : Rows → ℕ
bad_row rows = first_fail (row_fits_at rows.rows) 0 (live_of rows)

-- ---- the airframe: torques and used motors of both groups by module 2, weights by module 3
unfoldable pub airframe_by : List Float → Header → Rows → Airframe
airframe_by xs h rows =
    airframe_of xs h.kind h.wash h.lift (group_of rows (motor_layout_of xs) (motor_constant xs)) (surfaces_of rows).weights
    (lift_group_of rows (lift_layout_of xs) (lift_constant xs))

-- ---- reading (01, "What the bench replies", the order of an airframe)

-- a refused read gives the zero airframe
unfoldable pub refused_airframe : Refusal → AirframeRead
refused_airframe a = record { answer = Err a; airframe = zero_airframe }

unfoldable pub accepted_airframe : Airframe → AirframeRead
accepted_airframe a = record { answer = done; airframe = a }

-- 6 by lowest place
unfoldable pub tested_airframe : Airframe → ℕ → AirframeRead
tested_airframe a p = cond (eqb p 0) (accepted_airframe a) (refused_airframe (NumberOutOfRange p))

unfoldable pub tested_block : Airframe → Rows → AirframeRead
tested_block a rows = tested_airframe a (lowest_place (eqb (bad_row rows) 0) a)

unfoldable pub read_rows : List ℕ → Header → Rows → AirframeRead
read_rows s h rows = tested_block (airframe_by (numbers_from s h) h rows) rows

-- a reserved bit in the rows (4), then the numbers
unfoldable pub read_body : List ℕ → Header → AirframeRead
read_body s h =
    cond (eqb (reserved_row s h.lift (rows_at h) h.rows) 0)
    (read_rows s h (rows_from s (rows_at h) h.rows))
    (refused_airframe ReservedBit)

-- refused by its header (2 to 5), total length (1), then the rest
unfoldable pub read_as : List ℕ → Header → Announced → AirframeRead
read_as s h (Err answer) = refused_airframe answer
read_as s h (Ok n) = cond (not (eqb (length s) n)) (refused_airframe WrongLength) (read_body s h)

unfoldable pub read_by : List ℕ → Header → AirframeRead
read_by s h = read_as s h (announced_by h)

-- under 2 bytes (1), then by the header
unfoldable pub read_airframe_of : List ℕ → AirframeRead
read_airframe_of s = cond (ltb (length s) header_bytes) (refused_airframe WrongLength) (read_by s (header_of (byte_at s 0) (byte_at s 1)))

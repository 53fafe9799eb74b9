-- What blocks of bytes are made of (01, "Blocks"): numbers, vectors and the numbers of the 8 slots, and where each stands in the
-- bytes. A block's bytes are a list of numbers below 256. Definitions only.
use Rattle.std.specs.Prelude.{Err, ◌*◌, ◌+◌, suc, zero, ℕ, eqb, Float, length, cond, List}
use Rattle.std.specs.Float.{binary32}
use Rattle.std.specs.Float.Ieee.{of_bits, to_bits}
use Rattle.answers.specs.Answers.{Answer}
use Rattle.answers.specs.declared.Refusal.TheVariants.{WrongLength}
use Rattle.answers.specs.Answers.{done}
use Rattle.float.specs.Bytes.{put, word}
use Rattle.mixers.specs.Slots.{at, slots}
use Rattle.vector.specs.Vector.{vec}
use Rattle.vector.specs.declared.Vec3.{Vec3}

-- every number is an f32 of 4 bytes, the highest first; a vector has 3 numbers, the slots 8
abbrev pub number_bytes : ℕ
number_bytes = 4

abbrev pub vec_bytes : ℕ
vec_bytes = 3 * number_bytes

abbrev pub slots_bytes : ℕ
slots_bytes = 8 * number_bytes

-- ---- reading

-- the number at byte i
unfoldable pub float_at : List ℕ → ℕ → Float
float_at s i = of_bits binary32 (word s i)

-- the vector whose three numbers begin at i
unfoldable pub vec_from : List ℕ → ℕ → Vec3
vec_from s i = vec (float_at s i) (float_at s (i + number_bytes)) (float_at s (i + 2 * number_bytes))

-- the number of slot k, where slot 0's stands at i
unfoldable pub slot_from : List ℕ → ℕ → ℕ → Float
slot_from s i k = float_at s (i + number_bytes * k)

-- the numbers of the 8 slots
unfoldable pub floats_from : List ℕ → ℕ → List Float
floats_from s i = slots (slot_from s i)

-- ---- writing: one number after the other

-- a number at byte i
unfoldable pub put_float : List ℕ → ℕ → Float → List ℕ
put_float s i x = put s i (to_bits binary32 x)

-- a vector's three numbers from i on
unfoldable pub put_vec : List ℕ → ℕ → Vec3 → List ℕ
put_vec s i v = put_float (put_float (put_float s i v.x) (i + number_bytes) v.y) (i + 2 * number_bytes) v.z

-- the first n slots' numbers from i on
unfoldable pub put_floats : List ℕ → ℕ → List Float → ℕ → List ℕ
put_floats s i xs zero = s
put_floats s i xs (suc n) = put_float (put_floats s i xs n) (i + number_bytes * n) (at xs n)

-- a block is written, untested, into just as many bytes as it has, else 1 (01, "What the bench replies"), and the bytes stay as
-- found
unfoldable pub write_answer : ℕ → List ℕ → Answer
write_answer n s = cond (eqb (length s) n) done (Err WrongLength)

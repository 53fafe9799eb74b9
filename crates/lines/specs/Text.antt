-- The text of the lines, as bytes (01, "Flown by hand"). Definitions only.
use Rattle.std.specs.Prelude.{Err, ℕ, zero, suc, ◌/◌, ◌%◌, cond, List, [], ◌∷◌, ◌++◌, ◌==◌, nat_lt, to_bits, Float}
use Rattle.std.specs.Float.{binary32}
use Rattle.answers.specs.Answers.{number_of, place_of}
use Rattle.answers.specs.Answers.{Answer}
use Rattle.answers.specs.declared.Refusal.TheVariants.{WrongLength}
use Rattle.body.specs.declared.Body.{Body}
use Rattle.flight.specs.State.{body_of}
use Rattle.flight.specs.declared.Flight.{Flight}
use Rattle.float.specs.Same.{num}
use Rattle.lines.specs.Glyph.{glyph_of}
use Rattle.trace.specs.Tick.{tick_bytes}
use Rattle.vector.specs.declared.Quaternion.{Quaternion}
use Rattle.vector.specs.declared.Vec3.{Vec3}

-- the last k digits of n in the base b, the most significant first
unfoldable pub digits_of : ℕ → ℕ → ℕ → List ℕ
digits_of b zero n = []
digits_of b (suc k) n = digits_of b k (n / b) ++ (glyph_of (n % b) ∷ [])

-- how many decimal digits n has, at most one and `more`
unfoldable pub digit_count : ℕ → ℕ → ℕ
digit_count zero n = 1
digit_count (suc more) n = cond (nat_lt n 10) 1 (suc (digit_count more (n / 10)))

-- n in decimal; a number of 64 bits has at most 20 digits
unfoldable pub decimal_text : ℕ → List ℕ
decimal_text n = digits_of 10 (digit_count 19 n) n

-- a byte by itself: a space, a newline, the digit 0 and the mark of the reflection
abbrev pub byte_text : ℕ → List ℕ
byte_text b = b ∷ []

abbrev pub space : ℕ
space = 32

abbrev pub newline : ℕ
newline = 10

abbrev pub zero_digit : ℕ
zero_digit = 48

abbrev pub mark : ℕ
mark = 39

-- a space and the eight hex digits of the number's bits, any zero 00000000 and any NaN 7FC00000
unfoldable pub word_text : Float → List ℕ
word_text x = byte_text space ++ digits_of 16 8 (to_bits binary32 (num x))

unfoldable pub vec_text : Vec3 → List ℕ
vec_text v = word_text v.x ++ word_text v.y ++ word_text v.z

unfoldable pub attitude_text : Quaternion → List ℕ
attitude_text q = word_text q.w ++ word_text q.i ++ word_text q.j ++ word_text q.k

-- the first 13 numbers of a state
unfoldable pub body_text : Body → List ℕ
body_text b =
    vec_text b.position_ned_m
    ++ vec_text b.velocity_ned_mps
    ++ attitude_text b.attitude
    ++ vec_text b.angular_velocity_radps

-- what follows the index of a tick's line
unfoldable pub rest_text : Answer → Flight → List ℕ
rest_text answer f = byte_text space ++ decimal_text (number_of answer) ++ body_text (body_of f) ++ byte_text newline

-- the line of a tick: its index, its answer, and the state handed back
unfoldable pub line_text : ℕ → Answer → Flight → List ℕ
line_text index answer f = decimal_text index ++ rest_text answer f

-- the same of the flight's reflection, with a mark behind the index
unfoldable pub mirrored_text : ℕ → Answer → Flight → List ℕ
mirrored_text index answer f = decimal_text index ++ byte_text mark ++ rest_text answer f

-- the line of a refused read: 0, its answer and its place
unfoldable pub refusal_text : Answer → List ℕ
refusal_text answer =
    byte_text zero_digit
    ++ byte_text space
    ++ decimal_text (number_of answer)
    ++ byte_text space
    ++ decimal_text (place_of answer)
    ++ byte_text newline

-- what follows the lines of the last n bytes: bytes short of a tick are refused
unfoldable pub end_text : ℕ → List ℕ
end_text n = cond (n % tick_bytes == 0) [] (refusal_text (Err WrongLength))

-- A word of a list: eight upper-case hex digits, the highest first. Definitions only.
use Rattle.std.specs.Prelude.{ℕ, ◌+◌, ◌-◌, ◌*◌, Bool, true, false, cond, ◌&&◌, List, nat_lt, slice_index}

-- whether b is one of the characters 0 to 9 or A to F
unfoldable pub is_digit : ℕ → Bool
is_digit b = cond (nat_lt b 48) false (cond (nat_lt b 58) true (cond (nat_lt b 65) false (nat_lt b 71)))

-- the digit's value; 0 where b is no digit
unfoldable pub digit_of : ℕ → ℕ
digit_of b = cond (nat_lt b 48) 0 (cond (nat_lt b 58) (b - 48) (cond (nat_lt b 65) 0 (cond (nat_lt b 71) (b - 55) 0)))

-- two digits at i
unfoldable pub is_pair : List ℕ → ℕ → Bool
is_pair s i = is_digit (slice_index s i) && is_digit (slice_index s (i + 1))

unfoldable pub pair_of : List ℕ → ℕ → ℕ
pair_of s i = digit_of (slice_index s i) * 16 + digit_of (slice_index s (i + 1))

-- eight digits at i
unfoldable pub is_word : List ℕ → ℕ → Bool
is_word s i = is_pair s i && (is_pair s (i + 2) && (is_pair s (i + 4) && is_pair s (i + 6)))

unfoldable pub word_of : List ℕ → ℕ → ℕ
word_of s i = pair_of s i * 16777216 + pair_of s (i + 2) * 65536 + pair_of s (i + 4) * 256 + pair_of s (i + 6)

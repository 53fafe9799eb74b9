-- Four bytes as one number, the highest first (01, "Blocks": bytes big-endian). Definitions only.
use Rattle.std.specs.Prelude.{ℕ, ◌+◌, ◌*◌, ◌/◌, ◌%◌, List, slice_index, slice_set}

-- the byte at i; 0 past the end
abbrev pub byte_at : List ℕ → ℕ → ℕ
byte_at s i = slice_index s i

-- the four bytes at i, big-endian
abbrev pub word : List ℕ → ℕ → ℕ
word s i = byte_at s i * 16777216 + byte_at s (i + 1) * 65536 + byte_at s (i + 2) * 256 + byte_at s (i + 3)

-- s with the four bytes of n at i, big-endian
abbrev pub put : List ℕ → ℕ → ℕ → List ℕ
put s i n = slice_set (slice_set (slice_set (slice_set s i (n / 16777216 % 256)) (i + 1) (n / 65536 % 256)) (i + 2) (n / 256 % 256)) (i + 3) (n % 256)

-- A digit as a line shows it. Definitions only.
use Rattle.std.specs.Prelude.{ℕ, ◌+◌, cond, nat_lt}

-- the character of a digit below 16: 0 to 9, then A to F
unfoldable pub glyph_of : ℕ → ℕ
glyph_of d = cond (nat_lt d 10) (d + 48) (d + 55)

-- How long a page is, a buffer of text or of ticks, and how long a tick's line is at most. Definitions only.
use Rattle.std.specs.Prelude.{ℕ}

abbrev pub page_bytes : ℕ
page_bytes = 65536

-- an index of up to 20 digits, the mark of a reflection, an answer, 13 numbers of 9 characters and the line's end fit into it
abbrev pub line_bytes : ℕ
line_bytes = 160

-- What a program is asked to read. Definitions only.
use Rattle.std.specs.Prelude.{ℕ, Bool, cond, ◌==◌, nat_lt}
use Rattle.lines.specs.declared.input.Asked.{Asked}
use Rattle.lines.specs.declared.input.Asked.TheVariants.{File, Nothing, StandardInput}

-- by the number of words it was called with, its own name among them, and whether standard input is a terminal: the file of its
-- one argument; without one standard input, unless it is a terminal; nothing where there are more
unfoldable pub asked_by : ℕ → Bool → Asked
asked_by words terminal = cond (nat_lt 2 words) Nothing (cond (words == 2) File (cond terminal Nothing StandardInput))

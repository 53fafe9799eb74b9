-- The table of powers of two that exp takes (02, 3). Definitions only.
use Rattle.std.specs.Prelude.{ℕ, Float, false, List}
use Rattle.std.specs.Float.{fin}
use Rattle.std.specs.Float.Ieee.{minus}
use Rattle.float.specs.Lists.{list_of}

-- entry i, counted from 0: 2 ^ (i - 126)
unfoldable pub power_at : ℕ → Float
power_at i = fin false 1 (minus i 126)

-- one entry for each k from -126 to 127
abbrev pub power_count : ℕ
power_count = 254

unfoldable pub powers_of_two : List Float
powers_of_two = list_of power_at power_count

-- What the code's promises name besides the definitions. Nothing here needs believing: `proofs/Rows` shows that the tests before the
-- search for a row leave it (`between_ends`).
use Rattle.std.specs.Prelude.{T, Float}
use Rattle.std.specs.Float.Ieee.{lt}
use Rattle.air.specs.Density.{height_of, last_row}

-- a height between the table's ends
pub record Inside (h : Float) : Type 0 where
  pub above : T (lt (height_of 0) h)
  pub below : T (lt h (height_of last_row))

-- What the code's promises name besides the definitions. Nothing here needs believing: `proofs/Truncation` says what it is.
use Rattle.std.specs.Float.{binary32, fin}
use Rattle.std.specs.Float.Ieee.{lt, of_int, to_signed}
use Rattle.std.specs.Prelude.{true, false, cond, ◌&&◌, pos, Float}

-- x without its fraction, where x is below 2 ^ 24 in size; 0 elsewhere
unfoldable pub whole_part : Float → Float
whole_part x = cond (lt (fin true 1 (pos 24)) x && lt x (fin false 1 (pos 24))) (of_int binary32 (to_signed 63 x)) (fin false 0 (pos 0))

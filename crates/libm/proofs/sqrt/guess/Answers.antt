-- `libm::sqrt::guess` is proved safe: no pattern that it makes is a NaN's, and a NaN at the end is caught. Assumes nothing.
use native.Mathlib.Omega.{arith}
use Rattle.float.proofs.Patterns.{no_nan, not-nan-pattern64}
use Rattle.libm.proofs.sqrt.guess.Goals as goal

pub float_from_bits-y : goal.float_from_bits-y
float_from_bits-y c = not-nan-pattern64 _ (omega arith)

pub float_to_bits-result : goal.float_to_bits-result
float_to_bits-result c = no_nan _ c.if-t.false

-- `float::from_bits` meets its contract: of the patterns above the infinity's, the sign aside, every one is a NaN's, and of the others none. Assumes nothing.
use Rattle.std.proofs.Common.{sym, ◌∙◌, arith}
use Rattle.float.proofs.Patterns.{not-nan-pattern, nan_pattern, zero_by_zero}
use Rattle.float.proofs.from_bits.Goals as goal

pub float_from_bits-result : goal.float_from_bits-result
float_from_bits-result c = not-nan-pattern c.args.b (omega arith)

pub returns-then-b-gt2139095040 : goal.returns-then-b-gt2139095040
returns-then-b-gt2139095040 c = zero_by_zero ∙ sym (nan_pattern c.args.b (omega arith))

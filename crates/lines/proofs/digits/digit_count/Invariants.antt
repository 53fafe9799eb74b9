-- The digits that are counted, and those of what is left.
use Rattle.std.proofs.Common.{◌≡◌, ◌+◌, ◌-◌}
use Rattle.lines.specs.Text.{digit_count}
use Rattle.lines.proofs.digits.digit_count.Given as goal

abbrev pub invariant-loop-k : goal.invariant-loop-k
invariant-loop-k l = digit_count 19 l.n ≡ l.k - 1 + digit_count (20 - l.k) l.rest

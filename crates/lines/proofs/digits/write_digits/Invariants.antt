-- The digits that are left, before those that are written, are all digits.
use Rattle.std.proofs.Common.{◌≡◌, ◌-◌, ◌++◌, length, drop}
use Rattle.lines.specs.Text.{digits_of}
use Rattle.lines.proofs.digits.write_digits.Given as goal

abbrev pub invariant-loop-i : goal.invariant-loop-i
invariant-loop-i l =
    (l.k ≡ length l.room) × (digits_of l.base (l.k - l.i) l.rest ++ drop (l.k - l.i) l.room ≡ digits_of l.base l.k l.n)

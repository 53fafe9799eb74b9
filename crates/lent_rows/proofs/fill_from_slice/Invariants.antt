-- `lent_rows::fill_from_slice`: what is left to put from here is what was left to put from the start.
use Rattle.std.proofs.Common.{◌≡◌, drop}
use Rattle.lent_rows.specs.Mixing.{mix_from}
use Rattle.lent_rows.proofs.fill_from_slice.Given as goal

abbrev pub invariant-loop-row : goal.invariant-loop-row
invariant-loop-row l = mix_from l.initial.m l.rows ≡ mix_from l.m (drop l.row-index l.rows)

-- `lines::opening::airframe_wanted` meets its contract. Assumes nothing.
use Rattle.std.proofs.Common.{sym, ap, ◌∙◌, rules}
use Rattle.airframe_block.proofs.Small.{announced-within}
use Rattle.lines.specs.Opening.{wanted_by}
use Rattle.lines.proofs.opening.airframe_wanted.Goals as goal

pub returns-in-Ok : goal.returns-in-Ok
unfolding wanted_by
returns-in-Ok c =
    let e = sym c.announced_of.ensures ∙ c.in-Ok.is in
    let w = announced-within _ _ _ e in
    record { count = ap wanted_by (sym e); low = w.0; high = w.1 }

pub returns-in-Err : goal.returns-in-Err
unfolding wanted_by
returns-in-Err c =
    let e = sym c.announced_of.ensures ∙ c.in-Err.is in
    record { count = ap wanted_by (sym e); low = search rules; high = search rules }

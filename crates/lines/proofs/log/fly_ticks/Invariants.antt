-- The first i ticks are flown, and their lines are on the page.
use Rattle.std.proofs.Common.{◌≡◌, ◌+◌, ◌*◌, ◌≤◌, ◌++◌, length}
use Rattle.trace.specs.Trace.{tick_count, ticks_from}
use Rattle.lines.proofs.log.fly_ticks.Given as goal

abbrev pub invariant-loop-i : goal.invariant-loop-i
invariant-loop-i g l =
    (l.count ≡ tick_count l.trace)
    × (g.L.Log.leads l.a l.fn.p (ticks_from l.trace 0 l.i) l.log)
    × (l.page ≡ l.initial.page ++ g.L.Log.lines l.a l.fn.p (ticks_from l.trace 0 l.i))
    × (length l.page ≤ length l.initial.page + g.L.Log.room * l.i)

-- `run::fly_all` meets its contract. Assumes nothing.
use Prim.Native.Nat.{◌≤◌}
use mathlib.Core.Bool.{true}
use mathlib.Core.Path.{◌≡◌}
use Rattle.flight.specs.Envelope.{is_inside}
use Rattle.trace.proofs.Trace.{after}
use Rattle.trace.specs.Trace.{tick_count}
use Rattle.wing.specs.Promises.{FactorsMatchStep}
use Rattle.run.specs.Promises.{track_on}
use Rattle.run.specs.Run.{Progress}
use Rattle.run.proofs.fly_all.Given as goal

abbrev pub invariant-loop-i : goal.invariant-loop-i
invariant-loop-i g l = let start : Progress = record { flight = l.initial.flight; accepted = 0 } in
    (l.accepted ≤ l.i)
    × (l.count ≡ tick_count l.trace)
    × (◌≡◌ {A = Progress} (record { flight = l.flight; accepted = l.accepted }) (after (track_on g.T.Track.tick l.a.airframe) start l.trace l.i))
    × (is_inside l.flight ≡ true)
    × FactorsMatchStep l.a.airframe l.lags

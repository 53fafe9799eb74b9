-- `run::fly_all` meets its contract. Assumes nothing.
use lib.Ieee.{binary32}
use lib.Ieee.Bits.{of_bits-fits}
use mathlib.Core.List.{foldl-map}
use mathlib.Core.Path.{◌∙◌, ap, refl, subst, sym}
use native.Mathlib.Omega.{arith}
use borrow.Author.Rules.{rules}
use Rattle.answers.specs.Answers.{done}
use Rattle.flight.specs.Envelope.{is_inside}
use Rattle.trace.proofs.Trace.{after-all, after_more}
use Rattle.trace.specs.Trace.{tick_at, ticks_from, ticks_of}
use Rattle.wing.proofs.Steps.{begin-of-its-step}
use Rattle.wing.specs.Promises.{FactorsMatchStep}
use Rattle.wing.specs.declared.TickResult.{TickResult}
use Rattle.run.proofs.Loop.{progress, stays-inside}
use Rattle.run.specs.Promises.{track_flown, track_on}
use Rattle.run.specs.Run.{Progress, ended, progressed, run_from, run_of}
use Rattle.run.proofs.fly_all.Goals as goal

pub loop-i-init : goal.loop-i-init
unfolding ticks_from
loop-i-init g c = (
  search rules,
  c.tick_count-count.ensures,
  refl,
  c.requires,
  subst (FactorsMatchStep _) (sym c.begin-lags.ensures) (begin-of-its-step _ _ (of_bits-fits binary32 _)),
)

pub loop-i-preserved : goal.loop-i-preserved
loop-i-preserved g c =
    let a = c.args in
    let kept = c.loop-i.invariant in
    let p : Progress = record { flight = c.loop-i.flight; accepted = c.loop-i.accepted } in
    let start : Progress = record { flight = a.f; accepted = 0 } in
    let on = track_on g.T.Track.tick a.a.airframe in
    let taken = c.take-t.ensures ∙ ap g.T.Track.tick c.tick_at.ensures in (
      search rules,
      kept.1,
      progress a.a.airframe p _ c.take-t.result c.tick_inside-done.result c.one_if_done-accepted.result taken
          c.tick_inside-done.ensures c.one_if_done-accepted.ensures.value
          ∙ ap (λ (q : Progress). on q (tick_at a.trace.now c.loop-i.i)) kept.2
          ∙ after_more on start a.trace.now c.loop-i.i,
      ap (λ (x : TickResult). is_inside x.flight) c.tick_inside-done.ensures
          ∙ stays-inside a.a.airframe c.loop-i.flight c.take-t.result kept.3,
      c.cached_lag_factors-lags.ensures.matches_step,
    )

pub returns : goal.returns
unfolding track_flown run_of run_from
returns g c =
    let a = c.args in
    let start : Progress = record { flight = a.f; accepted = 0 } in
    c.ended.ensures
    ∙ ap (λ (p : Progress). ended done p.flight p.accepted)
    (c.loop-i.invariant.2
    ∙ after-all (track_on g.T.Track.tick a.a.airframe) start a.trace.now c.loop-i.i (omega arith) (omega (arith, c.loop-i-test.false))
    ∙ sym (foldl-map g.T.Track.tick (progressed a.a.airframe) (ticks_of a.trace.now) start))

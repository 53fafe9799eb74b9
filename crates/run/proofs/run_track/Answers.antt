-- `run::run_track` meets its contract. Assumes nothing.
use Rattle.trace.specs.Trace.{ticks_of}
use Rattle.run.specs.Promises.{track_flown, track_result}
use Rattle.run.specs.Run.{run_result_over, run_of}
use Rattle.run.proofs.Loop.{outside-run, refused-run}
use Rattle.flight.specs.Envelope.{is_inside}
use Rattle.airframe.specs.declared.Airframe.{Airframe}
use Rattle.wing.specs.Promises.{RefusedBy}
use mathlib.Core.Path.{◌∙◌, ◌≡◌, ap, sym}
use mathlib.Core.List.{map}
use mathlib.Core.Bool.{false}
use Rattle.run.proofs.run_track.Goals as goal

pub returns-then-is_inside : goal.returns-then-is_inside
unfolding track_result run_result_over track_flown
returns-then-is_inside g c =
    let a = c.args in
    rw (sym c.is_whole.ensures ∙ c.if-is_whole.true)
    (c.fly_all.ensures ∙ ap (λ (x : Airframe). track_flown g.T.Track.tick x a.f a.trace.now) c.in-Ok.ensures.accepted)

pub returns-in-Ok : goal.returns-in-Ok
unfolding track_result run_result_over run_of
returns-in-Ok g c =
    let a = c.args in
    let o : is_inside a.f ≡ false = sym c.is_inside.ensures ∙ c.if-is_inside.false in
    rw (
      sym c.is_whole.ensures ∙ c.if-is_whole.true,
      outside-run a.a (record { flight = a.f; accepted = 0 }) (map g.T.Track.tick (ticks_of a.trace.now)) o,
    ) c.ended.ensures

pub returns-then-is_whole : goal.returns-then-is_whole
unfolding track_result run_result_over run_of
returns-then-is_whole g c =
    let a = c.args in
    let q : RefusedBy a.a c.in_default.field-0 = c.in_default.ensures.refused in
    rw (
      sym c.is_whole.ensures ∙ c.if-is_whole.true,
      refused-run a.a (record { flight = a.f; accepted = 0 }) (map g.T.Track.tick (ticks_of a.trace.now)) q.there,
    ) c.ended-then-is_whole.ensures

pub returns : goal.returns
unfolding track_result run_result_over
returns g c = rw (sym c.is_whole.ensures ∙ c.if-is_whole.false) c.ended-2.ensures

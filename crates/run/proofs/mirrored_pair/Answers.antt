-- `run::mirrored_pair` meets its contract. Assumes nothing.
use mathlib.Core.List.{map, map-id}
use mathlib.Core.Path.{◌∙◌, ◌≡◌, ap, sym}
use borrow.Author.Rules.{rules}
use Rattle.airframe.specs.Reflection.{reflect_airframe}
use Rattle.flight.specs.Reflection.{reflect_flight, reflect_tick}
use Rattle.float.proofs.Representable.{field-representable}
use Rattle.trace.proofs.Reflection.{Bytes, reflected-ticks}
use Rattle.trace.specs.Trace.{ticks_of}
use Rattle.wing.proofs.Running.{Representable}
use Rattle.run.proofs.Mirror.{demand3, ran-mirror}
use Rattle.run.proofs.Loop.{reflected-run}
use Rattle.run.specs.Promises.{track_result}
use Rattle.run.specs.Run.{run_result_of, run_result_over}
use Rattle.run.proofs.mirrored_pair.Goals as goal

pub returns : goal.returns
unfolding track_result run_result_of
returns c =
    let k = c in
    let a = k.args in
    let s = a.trace.now in
    let ts = ticks_of s in
    let bytes : Bytes s = λ i. search rules in
    -- what owning the state tells: the running values of its motors and lift rotors are 32-bit floats
    let held : Representable a.f = record {
      motors = record { motor = λ k l. field-representable a.f.motors _ k c.well_formed.1.0.1.1.1.1.1.1.1.1.1.1.1.1.1.1.1.0.1.1 };
      lift = record { motor = λ k l. field-representable a.f.lift_motors _ k c.well_formed.1.0.1.1.1.1.1.1.1.1.1.1.1.1.1.1.1.1.1.1.0.1.1 };
    } in
    let second : c.run_track-second.result ≡ run_result_over (reflect_airframe a.a) (reflect_flight a.f) s (map reflect_tick ts) = c.run_track-second.ensures
    ∙ rw (c.reflected.ensures, c.reflected-2.ensures) in
    let first : c.run_track-first.result ≡ run_result_over a.a a.f s ts = c.run_track-first.ensures
    ∙ ap (run_result_over a.a a.f s) (map-id ts) in
    record {
      first = first;
      second = second ∙ sym (reflected-run (reflect_airframe a.a) (reflect_flight a.f) s bytes);
      ticks = reflected-ticks s bytes;
      ends = rw (first, second) (ran-mirror a.a a.f s ts);
      demand3 = demand3 a.a a.f held;
    }

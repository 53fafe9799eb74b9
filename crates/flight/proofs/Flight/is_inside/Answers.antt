-- `flight::Flight::is_inside` meets its contract. Assumes nothing.
use lib.Ieee.{neg, of_bits, round}
use mathlib.Core.Bool.{Bool}
use mathlib.Core.Path.{sym}
use Rattle.std.proofs.Math.Bool.{and_assoc}
use Rattle.mixers.proofs.Flags.{and-cond}
use Rattle.flight.proofs.Inside.{inside-all}
use Rattle.flight.proofs.Flight.is_inside.Goals as goal

pub returns : goal.returns
unfolding of_bits round neg
returns c =
    simp (
      inside-all c.args.self,
      (λ (a b : Bool). sym (and-cond a b)),
      and_assoc,
      c.slots_inside-lift.ensures,
      c.slots_inside-scales.ensures,
      c.slots_inside-servos.ensures,
      c.slots_inside-motors.ensures,
      c.is_inside-rates.ensures,
      c.inside-attitude.ensures,
      c.norm_squared.ensures,
      c.is_inside-velocity.ensures,
      c.is_inside-position.ensures,
      c.body-body.ensures,
    )

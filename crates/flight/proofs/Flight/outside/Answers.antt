-- `flight::Flight::outside` meets its contract. Assumes nothing.
use lib.Ieee.{neg, of_bits, round}
use Rattle.ordered.proofs.Ordered.{after-option, or-assoc, or-option}
use Rattle.flight.specs.Envelope.{outside_of}
use Rattle.flight.proofs.Flight.outside.Goals as goal

pub returns : goal.returns
unfolding outside_of of_bits round neg
returns c =
    let p = c in
    simp (
      c.or-7.ensures,
      c.or-6.ensures,
      c.or-5.ensures,
      c.or-4.ensures,
      c.or-3.ensures,
      c.or-2.ensures,
      c.or.ensures,
      p.after-lift.ensures,
      p.slots_outside-4.ensures.value,
      p.after-scales.ensures,
      p.slots_outside-3.ensures.value,
      p.after-servos.ensures,
      p.slots_outside-2.ensures.value,
      p.after-motors.ensures,
      p.slots_outside.ensures.value,
      p.after-rates.ensures,
      p.vec_outside-2.ensures.value,
      p.after-attitude.ensures,
      p.attitude_outside.ensures.value,
      p.after-velocity.ensures,
      p.vec_outside.ensures.value,
      p.vec_outside-position.ensures.value,
      p.body-body.ensures,
      after-option,
      or-option,
      or-assoc,
    )

-- A state and its reflection break the same test of the envelope first. Assumes nothing.
use lib.Ieee.{Float}
use mathlib.Core.Bool.{Bool}
use mathlib.Core.Path.{◌≡◌, refl}
use Rattle.body.proofs.Mirror.{reflect-body}
use Rattle.float.proofs.Bounds.{inside-rel}
use Rattle.vector.proofs.Mirror.{quat-norm-is, reflect-vec}
use Rattle.vector.specs.Reflection.{QuatRel, VecRel}
use Rattle.vector.specs.declared.Quaternion.{Quaternion}
use Rattle.vector.specs.declared.Vec3.{Vec3}
use Rattle.flight.specs.Envelope.{attitude_outside, max_position, max_rate, max_velocity, outside_of, vec_outside}
use Rattle.flight.specs.Reflection.{FlightRel, TickRel, reflect_flight, reflect_tick}
use Rattle.flight.specs.State.{body_of}
use Rattle.flight.specs.declared.Flight.{Flight}
use Rattle.flight.specs.declared.Tick.{Tick}

vec-outside-is : {a : Bool} {v v' : Vec3} (limit : Float) → VecRel a v v' → vec_outside limit v' ≡ vec_outside limit v
unfolding vec_outside
vec-outside-is limit h = rw (inside-rel limit h.x, inside-rel limit h.y, inside-rel limit h.z)

attitude-outside-is : {q q' : Quaternion} → QuatRel q q' → attitude_outside q' ≡ attitude_outside q
unfolding attitude_outside
attitude-outside-is h = rw (quat-norm-is h)

pub outside-is : {f f' : Flight} → FlightRel f f' → outside_of f' ≡ outside_of f
unfolding outside_of
outside-is h =
    rw (
      vec-outside-is max_position h.body.position,
      vec-outside-is max_velocity h.body.velocity,
      attitude-outside-is h.body.attitude,
      vec-outside-is max_rate h.body.rates,
      h.motors,
      h.servos,
      h.scale,
      h.lift,
    )

-- the reflection by flipping sign bits is one
pub reflect-flight : (f : Flight) → FlightRel f (reflect_flight f)
unfolding reflect_flight
reflect-flight f = record { body = reflect-body (body_of f); motors = refl; servos = refl; scale = refl; lift = refl }

pub reflect-tick : (t : Tick) → TickRel t (reflect_tick t)
unfolding reflect_tick
reflect-tick t = record { step = refl; wind = reflect-vec t.wind_ned_mps; motors = refl; servos = refl }

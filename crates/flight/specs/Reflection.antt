-- The reflection of a state and of a tick (01, "Reflection negates"): a state's body is reflected, a tick's wind is negated in east,
-- all else stays, the thrust scales (02, 2) and the lift rotors' values (02, 5) too. And what it is for one state or tick to be the
-- other's reflection as numbers. Definitions only.
use Rattle.std.specs.Prelude.{false, ◌≡◌}
use Rattle.body.specs.Reflection.{BodyRel, reflect_body}
use Rattle.vector.specs.Reflection.{VecRel, reflect_vec}
use Rattle.flight.specs.State.{body_of, flight_of}
use Rattle.flight.specs.declared.Flight.{Flight}
use Rattle.flight.specs.declared.Tick.{Tick}

unfoldable pub reflect_flight : Flight → Flight
reflect_flight f = flight_of (reflect_body (body_of f)) f.motors f.servos f.thrust_scale f.lift_motors

unfoldable pub reflect_tick : Tick → Tick
reflect_tick t = record {
  step_s = t.step_s;
  wind_ned_mps = reflect_vec t.wind_ned_mps;
  motors = t.motors;
  servos = t.servos;
}

-- the same, compared as numbers; the running values and the thrust scales are even the same data
pub record FlightRel (f f' : Flight) : Type 0 where
  pub body : BodyRel (body_of f) (body_of f')
  pub motors : f'.motors ≡ f.motors
  pub servos : f'.servos ≡ f.servos
  pub scale : f'.thrust_scale ≡ f.thrust_scale
  pub lift : f'.lift_motors ≡ f.lift_motors

pub record TickRel (t t' : Tick) : Type 0 where
  pub step : t'.step_s ≡ t.step_s
  pub wind : VecRel false t.wind_ned_mps t'.wind_ned_mps
  pub motors : t'.motors ≡ t.motors
  pub servos : t'.servos ≡ t.servos

-- The tick (01, module 8 and "What the bench replies"; 02, 1, 5 and 6): tests 6, 7, 8, 10, the step, test 9. Definitions only.
use Rattle.std.specs.Prelude.{Err, eqb, Float, Bool, cond, List}
use Rattle.std.specs.Float.Ieee.{neg}
use Rattle.air.specs.Density.{density_at}
use Rattle.airframe.specs.Acceptance.{refused_place}
use Rattle.airframe.specs.declared.Airframe.{Airframe}
use Rattle.answers.specs.Answers.{Answer}
use Rattle.answers.specs.declared.Refusal.TheVariants.{Departure, NumberOutOfRange, StateOutside, StepOutside, WindUnusable}
use Rattle.answers.specs.Answers.{done}
use Rattle.body.specs.Motion.{step_of}
use Rattle.body.specs.declared.MassProperties.{MassProperties}
use Rattle.fixed_wing.specs.declared.FixedWingModel.{FixedWingModel}
use Rattle.flight.specs.Envelope.{is_inside}
use Rattle.flight.specs.State.{body_of, flight_of}
use Rattle.flight.specs.declared.Flight.{Flight}
use Rattle.flight.specs.declared.Tick.{Tick}
use Rattle.float.specs.Interval.{inside}
use Rattle.float.specs.Notation.{zero, rounded}
use Rattle.lag.specs.Lag.{factor_of, step_least, step_most}
use Rattle.motors.specs.Motor.{lag_factor, spin_of}
use Rattle.motors.specs.declared.Motors.{Motors}
use Rattle.quadplane_model.specs.Lift.{rotors_spun}
use Rattle.surfaces.specs.Surface.{move_to}
use Rattle.surfaces.specs.declared.Surfaces.{Surfaces}
use Rattle.vector.specs.Vector.{vec_inside}
use Rattle.vector.specs.declared.Vec3.{Vec3}
use Rattle.wing.specs.Loads.{loads_of, motors_for, surfaces_for}
use Rattle.wing.specs.declared.Loaded.{Loaded}
use Rattle.wing.specs.declared.TickResult.{TickResult}

-- begin(h): the motors and surfaces after a step of their lags, h being the tick's step
unfoldable pub spun_of : Airframe → Flight → Tick → Motors
spun_of a f t = spin_of (motors_for a f) t.motors (lag_factor a.motors t.step_s)

unfoldable pub moved_of : Airframe → Flight → Tick → Surfaces
moved_of a f t = move_to (surfaces_for a f) t.servos (factor_of t.step_s a.model.servo_time_constant_s)

-- each lift rotor follows the motor command of its slot; without lift numbers none moves (02, 5)
unfoldable pub lift_spun : Airframe → Flight → List Float → Float → List Float
lift_spun a f commands factor =
    cond a.lift_present (rotors_spun a.lift f.lift_motors commands factor) f.lift_motors

unfoldable pub lifted_of : Airframe → Flight → Tick → List Float
lifted_of a f t = lift_spun a f t.motors (lag_factor a.lift.motors t.step_s)

-- the density at the tick's starting height, which is position down negated (02, 6)
unfoldable pub density_for : Flight → Float
density_for f = density_at (neg f.down_m)

-- Body::step under the loads; the lagged values are the state's running values, and its thrust scales stay (02, 2)
unfoldable pub mass_of : FixedWingModel → MassProperties
mass_of m = record { mass_kg = m.mass_kg; inertia_kgm2 = m.inertia_kgm2 }

unfoldable pub stepped_of : FixedWingModel → Flight → List Float → List Float → List Float → Loaded → Float → TickResult
stepped_of m f motors servos lift_running l h = record {
  report = record { answer = done; alpha_rad = l.alpha_rad; beta_rad = l.beta_rad; thrust_n = l.thrust_n };
  flight = flight_of (step_of (body_of f) (mass_of m) l.loads h) motors servos f.thrust_scale lift_running;
}

-- the next state with these running values of the lift rotors and under these loads
unfoldable pub next_with : Airframe → Flight → Tick → List Float → Loaded → TickResult
next_with a f t lift_running l = stepped_of a.model f (spun_of a f t).running (moved_of a f t).running lift_running l t.step_s

-- a refusal: the given state again, and a report of zeros
unfoldable pub refused_of : Answer → Flight → TickResult
refused_of answer f = record {
  report = record { answer = answer; alpha_rad = zero; beta_rad = zero; thrust_n = zero };
  flight = f;
}

-- 9: a departure
unfoldable pub unless_departed : Flight → TickResult → TickResult
unless_departed f n = cond (is_inside n.flight) n (refused_of (Err Departure) f)

-- 10: a wind is usable where each component is within ±200 m/s, which a NaN is not (02, 1)
abbrev pub wind_most : Float
wind_most = rounded 200 1

unfoldable pub wind_usable : Vec3 → Bool
wind_usable wind = vec_inside wind_most wind

-- of an airframe that is accepted, n being the next state. 7: the state outside the envelope; 8: the step not in 1/1024..0.02;
-- then 10
unfoldable pub accepted_tick : Flight → Tick → TickResult → TickResult
accepted_tick f t n =
    cond (is_inside f)
    (cond (inside step_least step_most t.step_s)
    (cond (wind_usable t.wind_ned_mps) (unless_departed f n) (refused_of (Err WindUnusable) f))
    (refused_of (Err StepOutside) f))
    (refused_of (Err StateOutside) f)

-- the tick with these running values of the lift rotors and under these loads. 6: a number of the airframe outside its limits; then
-- 7, 8, 10 and 9
unfoldable pub tick_with : Airframe → Flight → Tick → List Float → Loaded → TickResult
tick_with a f t lift_running l =
    cond (eqb (refused_place a) 0)
    (accepted_tick f t (next_with a f t lift_running l))
    (refused_of (Err (NumberOutOfRange (refused_place a))) f)

-- the tick's loads in air of a density, and the tick: with its own loads in the air of its starting height
unfoldable pub loads_in : Airframe → Flight → Tick → Float → Loaded
loads_in a f t density = loads_of a (spun_of a f t) (moved_of a f t) (lifted_of a f t) (body_of f) t.wind_ned_mps density

unfoldable pub tick_of : Airframe → Flight → Tick → TickResult
tick_of a f t = tick_with a f t (lifted_of a f t) (loads_in a f t (density_for f))

-- its next state, whatever the tests say
abbrev pub next_of : Airframe → Flight → Tick → TickResult
next_of a f t = next_with a f t (lifted_of a f t) (loads_in a f t (density_for f))

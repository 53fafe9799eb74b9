-- A tick by what its motors pull: where that is another formula's pull, the tick is that of the other formula. Assumes nothing.
use lib.Ieee.{Float}
use mathlib.Core.Path.{◌≡◌, ap}
use Rattle.airframe.specs.declared.Airframe.{Airframe}
use Rattle.fixed_wing.specs.declared.ThrustFalloff.{ThrustFalloff}
use Rattle.flight.specs.State.{body_of}
use Rattle.flight.specs.declared.Flight.{Flight}
use Rattle.flight.specs.declared.Tick.{Tick}
use Rattle.motors.specs.Motor.{wrench_with}
use Rattle.motors.specs.declared.MotorWrench.{MotorWrench}
use Rattle.motors.specs.declared.Motors.{Motors}
use Rattle.vector.specs.declared.Vec3.{Vec3}
use Rattle.wing.specs.Loads.{air_of, loads_of, loads_under, pull_of}
use Rattle.wing.specs.Tick.{density_for, lifted_of, loads_in, moved_of, spun_of, tick_of, tick_with}
use Rattle.wing.specs.declared.Loaded.{Loaded}

-- a group's thrust and torque, as `wrench_with` is one: of the motors, the falloff and the forward airspeed
abbrev pub Pull : Type 0
Pull = Motors → ThrustFalloff → Float → MotorWrench

-- the air that a tick's body meets, on body axes, and the pull of its motors in it
abbrev pub tick_air : Flight → Tick → Vec3
tick_air f t = air_of (body_of f) t.wind_ned_mps

abbrev pub tick_pull : Pull → Airframe → Flight → Tick → MotorWrench
tick_pull pull a f t = pull (spun_of a f t) a.model.thrust_falloff (tick_air f t).x

-- the tick's loads under a pull
abbrev pub loads_by : Pull → Airframe → Flight → Tick → Loaded
loads_by pull a f t = loads_under a (tick_pull pull a f t) (moved_of a f t) (lifted_of a f t) (body_of f) (tick_air f t) (density_for f)

pub tick-under : (pull : Pull) (a : Airframe) (f : Flight) (t : Tick) → tick_pull wrench_with a f t ≡ tick_pull pull a f t
    → tick_of a f t ≡ tick_with a f t (lifted_of a f t) (loads_by pull a f t)
unfolding tick_of loads_in loads_of pull_of
tick-under pull a f t e =
    ap (λ (p : MotorWrench). tick_with a f t (lifted_of a f t)
    (loads_under a p (moved_of a f t) (lifted_of a f t) (body_of f) (tick_air f t) (density_for f))) e

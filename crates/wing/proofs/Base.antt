-- The base's tick, that of 01 before 02's requests 2, 4, 5 and 6: without lift numbers, with all thrust scales 1, with the exponent
-- 2 and from 0 m a tick has the base's loads. Assumes nothing.
use lib.Dec.{T}
use lib.Ieee.{Float, binary32, eq, fits}
use lib.ListN.{replicate}
use mathlib.Core.Bool.{Bool, false, true}
use mathlib.Core.Path.{◌∙◌, ◌≡◌, ap₂}
use Rattle.airframe.specs.declared.Airframe.{Airframe}
use Rattle.flight.specs.State.{body_of}
use Rattle.flight.specs.declared.Flight.{Flight}
use Rattle.flight.specs.declared.Tick.{Tick}
use Rattle.float.specs.Notation.{zero, one, rounded, two}
use Rattle.float.specs.Same.{flip}
use Rattle.motors.proofs.Base.{base_pull, pull-as-base}
use Rattle.motors.specs.Motor.{spin_of}
use Rattle.motors.specs.declared.MotorWrench.{MotorWrench}
use Rattle.wing.proofs.Height.{density-from-0}
use Rattle.wing.proofs.Lift.{tick-unlifted, unlifted_by, unlifted_under}
use Rattle.wing.proofs.Pulls.{tick_air}
use Rattle.wing.specs.Loads.{motors_for}
use Rattle.wing.specs.Tick.{moved_of, spun_of, tick_of, tick_with}
use Rattle.wing.specs.declared.Loaded.{Loaded}

-- aerodynamics and forward thrust alone (`unlifted_by`), each slot's thrust (max · running²) · falloff (`base_pull`), in air of 1.225
abbrev pub base_loads : Airframe → Flight → Tick → Loaded
base_loads a f t = unlifted_by base_pull a f t (rounded 1225 1000)

-- the most thrust being a 32-bit float, as its type tells; s is the sign of 0 m
pub tick-as-base : (a : Airframe) (f : Flight) (t : Tick) (s : Bool) → a.lift_present ≡ false → f.thrust_scale ≡ replicate 8 one
    → T (fits binary32 a.motors.layout.max_thrust_n)
    → eq a.motors.layout.thrust_exponent two ≡ true → f.down_m ≡ flip s zero → tick_of a f t ≡ tick_with a f t f.lift_motors (base_loads a f t)
unfolding spun_of spin_of motors_for
tick-as-base a f t s p e h x z =
    tick-unlifted a p f t
    ∙ ap₂ (λ (pull : MotorWrench) (density : Float). tick_with a f t f.lift_motors
    (unlifted_under a pull (moved_of a f t) (body_of f) (tick_air f t) density))
    (pull-as-base (spun_of a f t) a.model.thrust_falloff (tick_air f t).x e h x) (density-from-0 f s z)

-- The thrust scales (02, 2): no tick alters one, and with all of them 1 a tick is that of motors as built, whose thrust is (max ·
-- share) · falloff. Assumes nothing.
use lib.Dec.{T}
use lib.Ieee.{binary32, fits}
use lib.ListN.{replicate}
use mathlib.Core.Path.{◌≡◌, refl}
use Rattle.airframe.specs.declared.Airframe.{Airframe}
use Rattle.flight.specs.declared.Flight.{Flight}
use Rattle.flight.specs.declared.Tick.{Tick}
use Rattle.float.specs.Notation.{one}
use Rattle.motors.proofs.Scales.{built_pull, pull-as-built}
use Rattle.motors.specs.Motor.{spin_of}
use Rattle.wing.proofs.Passed.{tick-cases}
use Rattle.wing.proofs.Pulls.{loads_by, tick-under, tick_air}
use Rattle.wing.proofs.Range.{next-scale}
use Rattle.wing.specs.Loads.{motors_for}
use Rattle.wing.specs.Tick.{lifted_of, refused_of, spun_of, tick_of, tick_with}
use Rattle.wing.specs.declared.TickResult.{TickResult}

-- ---- refused or not, a tick hands back the scales it was given
pub scale-stays : (a : Airframe) (f : Flight) (t : Tick) → (tick_of a f t).flight.thrust_scale ≡ f.thrust_scale
unfolding refused_of
scale-stays a f t = tick-cases (λ (k : TickResult). k.flight.thrust_scale ≡ f.thrust_scale) a f t (λ x. refl) (λ p. next-scale a f t)

-- ---- scales of 1; the most thrust is a 32-bit float, as its type tells
pub tick-as-built : (a : Airframe) (f : Flight) (t : Tick) → f.thrust_scale ≡ replicate 8 one → T (fits binary32 a.motors.layout.max_thrust_n)
    → tick_of a f t ≡ tick_with a f t (lifted_of a f t) (loads_by built_pull a f t)
unfolding spun_of spin_of motors_for
tick-as-built a f t e h = tick-under built_pull a f t (pull-as-built (spun_of a f t) a.model.thrust_falloff (tick_air f t).x e h)

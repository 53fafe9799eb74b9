-- The shares of full thrust in a tick (02, 4): each lies from 0 to 1, and with the exponent 2 a tick is that of the running values'
-- squares, as it was. Assumes nothing.
use Prim.Native.Nat.{◌<◌, ℕ}
use lib.Ieee.{eq}
use mathlib.Core.Bool.{true}
use mathlib.Core.Path.{◌≡◌}
use Rattle.airframe.proofs.Range.{exponent-in, lift-exponent-in}
use Rattle.airframe.specs.Acceptance.{refused_place}
use Rattle.airframe.specs.declared.Airframe.{Airframe}
use Rattle.flight.specs.declared.Flight.{Flight}
use Rattle.flight.specs.declared.Tick.{Tick}
use Rattle.float.specs.Interval.{Within}
use Rattle.float.specs.Notation.{zero, one, two}
use Rattle.mixers.specs.Slots.{at}
use Rattle.motors.proofs.Shares.{pull-as-square, share_in, square_pull}
use Rattle.motors.specs.Motor.{spin_of, thrust_fraction}
use Rattle.wing.proofs.Pulls.{loads_by, tick-under, tick_air}
use Rattle.wing.proofs.Running.{Representable, Running}
use Rattle.wing.specs.Loads.{motors_for}
use Rattle.wing.specs.Tick.{lifted_of, spun_of, tick_of, tick_with}

-- ---- of an accepted airframe, at running values in their ranges, as every tick of a run has them
pub shares-in : (a : Airframe) (f : Flight) → refused_place a ≡ 0 → Representable f → Running f → (k : ℕ) → k < 8
    → Within zero one (thrust_fraction (at f.motors k) a.motors.layout.thrust_exponent)
shares-in a f e g r k l = share_in (at f.motors k) a.motors.layout.thrust_exponent (g.motors.motor k l) (r.motors.motor k l) (exponent-in a e)

-- and the lift rotors', where there are lift numbers (02, 5)
pub lift-shares-in : (a : Airframe) (f : Flight) → refused_place a ≡ 0 → a.lift_present ≡ true → Representable f → Running f → (k : ℕ) → k < 8
    → Within zero one (thrust_fraction (at f.lift_motors k) a.lift.motors.layout.thrust_exponent)
lift-shares-in a f e p g r k l =
    share_in (at f.lift_motors k) a.lift.motors.layout.thrust_exponent (g.lift.motor k l) (r.lift.motor k l) (lift-exponent-in a e p)

-- ---- the exponent 2
pub tick-as-square : (a : Airframe) (f : Flight) (t : Tick) → eq a.motors.layout.thrust_exponent two ≡ true
    → tick_of a f t ≡ tick_with a f t (lifted_of a f t) (loads_by square_pull a f t)
unfolding spun_of spin_of motors_for
tick-as-square a f t e = tick-under square_pull a f t (pull-as-square (spun_of a f t) a.model.thrust_falloff (tick_air f t).x e)

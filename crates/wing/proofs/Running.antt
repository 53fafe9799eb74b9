-- What the range law keeps of a state from tick to tick: the ranges of its running values and thrust scales, that an unused
-- motor's value and all scales stay, those of both groups, and that the motors' values are 32-bit floats. Assumes nothing.
use Prim.Native.Nat.{◌<◌, ℕ}
use mathlib.Core.Bool.{false}
use mathlib.Core.Path.{◌≡◌}
use Rattle.airframe.specs.declared.Airframe.{Airframe}
use Rattle.flight.specs.declared.Flight.{Flight}
use Rattle.float.specs.Interval.{Within}
use Rattle.float.specs.Notation.{minus_one, zero, one}
use Rattle.mixers.specs.Slots.{at}
use Rattle.motors.proofs.Range as Group

pub record Running (f : Flight) : Type 0 where
  pub motors : Group.Running f.motors
  pub servo : (k : ℕ) → k < 8 → Within minus_one one (at f.servos k)
  pub scale : (k : ℕ) → k < 8 → Within zero one (at f.thrust_scale k)
  pub lift : Group.Running f.lift_motors

-- the motors and lift rotors that their own group's marks leave out run in g as in f, without lift numbers all lift rotors (02, 5),
-- and all motors are as strong (02, 2)
pub record UnusedUnchanged (a : Airframe) (f g : Flight) : Type 0 where
  pub motors : Group.UnusedUnchanged a.motors.used f.motors g.motors
  pub scale : g.thrust_scale ≡ f.thrust_scale
  pub lift : Group.UnusedUnchanged a.lift.motors.used f.lift_motors g.lift_motors
  pub unlifted : a.lift_present ≡ false → g.lift_motors ≡ f.lift_motors

pub record Representable (f : Flight) : Type 0 where
  pub motors : Group.Representable f.motors
  pub lift : Group.Representable f.lift_motors

-- `motors::MotorGroup::put_motor` meets its contract. Assumes nothing.
use borrow.Author.Tests.{lt-ltb, le-ltb}
use Rattle.motors.specs.Motor.{put_motor}
use Rattle.motors.proofs.MotorGroup.put_motor.Goals as goal

pub returns-then-index-lt8 : goal.returns-then-index-lt8
unfolding put_motor
returns-then-index-lt8 c = simp (lt-ltb _ _ c.if-index-lt8.true)

pub returns : goal.returns
unfolding put_motor
returns c = simp (le-ltb _ _ c.if-index-lt8.false)

-- `surfaces::Factors::put_servo` meets its contract. Assumes nothing.
use borrow.Author.Tests.{lt-ltb, le-ltb}
use Rattle.surfaces.specs.Surface.{put_servo}
use Rattle.surfaces.proofs.Factors.put_servo.Goals as goal

pub returns-then-index-lt8 : goal.returns-then-index-lt8
unfolding put_servo
returns-then-index-lt8 c = simp (lt-ltb _ _ c.if-index-lt8.true)

pub returns : goal.returns
unfolding put_servo
returns c = simp (le-ltb _ _ c.if-index-lt8.false)

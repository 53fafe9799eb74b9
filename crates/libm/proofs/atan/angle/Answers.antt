-- `libm::atan::angle` meets its contract. Assumes nothing.
use lib.Ieee.{of_bits, round}
use Rattle.libm.specs.Atan.{angle_of}
use Rattle.libm.proofs.atan.angle.Goals as goal

pub returns-then-y-x : goal.returns-then-y-x
unfolding angle_of of_bits round
returns-then-y-x c = simp (c.atan_near.ensures, c.if-y-x.true)

pub returns : goal.returns
unfolding angle_of of_bits round
returns c = simp (c.atan_near-2.ensures, c.if-y-x.false)

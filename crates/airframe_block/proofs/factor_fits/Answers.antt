-- `airframe_block::factor_fits` meets its contract. Assumes nothing.
use lib.Ieee.{of_bits, round}
use Rattle.airframe_block.specs.Block.{factor_fits}
use Rattle.airframe_block.proofs.factor_fits.Goals as goal

pub returns-then-x : goal.returns-then-x
unfolding factor_fits of_bits round
returns-then-x c = simp c.if-x.true

pub returns : goal.returns
unfolding factor_fits of_bits round
returns c = simp (c.inside.ensures, c.abs.ensures, c.if-x.false)

-- `arrays::kind_number` meets its contract. Assumes nothing.
use lib.Ieee.{of_bits, round}
use Rattle.arrays.proofs.kind_number.Goals as goal

pub returns-in-Linear : goal.returns-in-Linear
unfolding of_bits round
returns-in-Linear c = simp c.in-Linear.is

pub returns-in-PitchSpeed : goal.returns-in-PitchSpeed
unfolding of_bits round
returns-in-PitchSpeed c = simp c.in-PitchSpeed.is

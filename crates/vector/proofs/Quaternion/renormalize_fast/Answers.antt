-- `vector::Quaternion::renormalize_fast` meets its contract. Assumes nothing.
use lib.Ieee.{of_bits, round}
use Rattle.vector.specs.Rotation.{renormalized}
use Rattle.vector.proofs.Quaternion.renormalize_fast.Goals as goal

pub returns : goal.returns
unfolding renormalized of_bits round
returns c = simp c.norm_squared.ensures

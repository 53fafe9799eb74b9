-- `vector::Quaternion::rotated` meets its contract. Assumes nothing.
use lib.Ieee.{of_bits}
use Rattle.vector.specs.Rotation.{rotated, twist}
use Rattle.vector.proofs.Quaternion.rotated.Goals as goal

pub returns : goal.returns
unfolding rotated twist of_bits
returns c =
    simp (
      c.add-2.ensures,
      c.add.ensures,
      c.cross-2.ensures,
      c.mul.ensures,
      c.mul-t.ensures,
      c.cross.ensures,
    )

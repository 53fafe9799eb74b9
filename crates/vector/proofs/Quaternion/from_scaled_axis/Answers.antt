-- `vector::Quaternion::from_scaled_axis` meets its contract: the norm is the root of the squared norm that was tested. Assumes nothing.
use lib.Ieee.{of_bits, round}
use Rattle.vector.specs.Rotation.{from_half_axis, from_scaled_axis}
use Rattle.vector.specs.Vector.{norm_of}
use Rattle.vector.proofs.Quaternion.from_scaled_axis.Goals as goal

pub returns-then-squared : goal.returns-then-squared
unfolding from_scaled_axis from_half_axis norm_of of_bits round
returns-then-squared c =
    simp (
      c.identity.ensures,
      simp (c.norm_squared-squared.ensures, c.mul-half.ensures) at c.if-squared.true,
      c.norm_squared-squared.ensures,
      c.mul-half.ensures,
    )

pub returns : goal.returns
unfolding from_scaled_axis from_half_axis norm_of of_bits round
returns c =
    simp (
      c.about.ensures,
      c.sqrtf.ensures,
      simp (c.norm_squared-squared.ensures, c.mul-half.ensures) at c.if-squared.false,
      c.norm_squared-squared.ensures,
      c.mul-half.ensures,
    )

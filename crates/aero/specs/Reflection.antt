-- A wrench seen in a mirror of left and right (01, "Reflection negates"): the force as a vector, the torque as an
-- axis, alpha the same and beta the opposite. Definitions only.
use Rattle.std.specs.Prelude.{false, true}
use Rattle.float.specs.Same.{Opposite, Same}
use Rattle.vector.specs.Reflection.{VecRel}
use Rattle.aero.specs.declared.Aero.{Aero}

pub record AeroRel (a a' : Aero) : Type 0 where
  pub force : VecRel false a.force_n a'.force_n
  pub torque : VecRel true a.torque_nm a'.torque_nm
  pub alpha : Same a.alpha_rad a'.alpha_rad
  pub beta : Opposite a.beta_rad a'.beta_rad

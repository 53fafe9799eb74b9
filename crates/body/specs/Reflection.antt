-- A body and its loads seen in a mirror of left and right (01, "Reflection negates"): position and velocity east, i, k, p, r are
-- negated. Definitions only.
use Rattle.std.specs.Prelude.{false, true}
use Rattle.vector.specs.Reflection.{QuatRel, VecRel, reflect_axis, reflect_quat, reflect_vec}
use Rattle.body.specs.declared.Body.{Body}
use Rattle.body.specs.declared.Loads.{Loads}
use Rattle.body.specs.declared.Wrench.{Wrench}

-- by flipping sign bits
unfoldable pub reflect_body : Body → Body
reflect_body b = record {
  position_ned_m = reflect_vec b.position_ned_m;
  velocity_ned_mps = reflect_vec b.velocity_ned_mps;
  attitude = reflect_quat b.attitude;
  angular_velocity_radps = reflect_axis b.angular_velocity_radps;
}

-- the same, compared as numbers: 0 and -0 are one
pub record BodyRel (b b' : Body) : Type 0 where
  pub position : VecRel false b.position_ned_m b'.position_ned_m
  pub velocity : VecRel false b.velocity_ned_mps b'.velocity_ned_mps
  pub attitude : QuatRel b.attitude b'.attitude
  pub rates : VecRel true b.angular_velocity_radps b'.angular_velocity_radps

pub record WrenchRel (w w' : Wrench) : Type 0 where
  pub force : VecRel false w.force_n w'.force_n
  pub torque : VecRel true w.torque_nm w'.torque_nm

pub record LoadsRel (l l' : Loads) : Type 0 where
  pub force : VecRel false l.force_ned_n l'.force_ned_n
  pub torque : VecRel true l.torque_nm l'.torque_nm
  pub damping : VecRel true l.damping_nm l'.damping_nm

-- The lift rotors (02, 5): a group of motors whose thrust T is along body -z, with a drag in the plane of their discs; and their
-- reflection. Definitions only.
use Rattle.std.specs.Prelude.{Float, replicate, List, ◌≡◌}
use Rattle.std.specs.Float.Ieee.{neg}
use Rattle.body.specs.declared.Wrench.{Wrench}
use Rattle.float.specs.Notation.{◌⊗◌, zero, one}
use Rattle.motors.specs.Motor.{spin_of, wrench_without_falloff}
use Rattle.motors.specs.Reflection.{GroupRel, reflect_group}
use Rattle.motors.specs.declared.MotorWrench.{MotorWrench}
use Rattle.motors.specs.declared.Motors.{Motors}
use Rattle.vector.specs.Vector.{scale_of, sub_of, vec}
use Rattle.vector.specs.declared.Vec3.{Vec3}
use Rattle.quadplane_model.specs.declared.LiftRotors.{LiftRotors}

-- thrust scales of 1
unfoldable pub rotors_at : LiftRotors → List Float → Motors
rotors_at l running = record { group = l.motors; running = running; thrust_scale = replicate 8 one }

-- they spin as motors do
unfoldable pub rotors_spun : LiftRotors → List Float → List Float → Float → List Float
rotors_spun l running commands factor = (spin_of (rotors_at l running) commands factor).running

-- (0, 0, -T) less c · T times the air's forward and side parts
unfoldable pub lift_force : Float → Float → Vec3 → Vec3
lift_force c thrust air = sub_of (vec zero zero (neg thrust)) (scale_of (vec air.x air.y zero) (c ⊗ thrust))

-- by what the rotors pull
unfoldable pub lift_by : Float → MotorWrench → Vec3 → Wrench
lift_by c pull air = record { force_n = lift_force c pull.thrust_n air; torque_nm = pull.torque_nm }

unfoldable pub lift_wrench : LiftRotors → List Float → Vec3 → Wrench
lift_wrench l running air = lift_by l.drag_per_thrust_n_per_mps (wrench_without_falloff (rotors_at l running)) air

-- ---- the reflection, by flipping sign bits, and what it is to be one as numbers
unfoldable pub reflect_rotors : LiftRotors → LiftRotors
reflect_rotors l = record { motors = reflect_group l.motors; drag_per_thrust_n_per_mps = l.drag_per_thrust_n_per_mps }

pub record RotorsRel (l l' : LiftRotors) : Type 0 where
  pub motors : GroupRel l.motors l'.motors
  pub drag : l'.drag_per_thrust_n_per_mps ≡ l.drag_per_thrust_n_per_mps

-- Lift rotors (02, 5): force and torque of a small airframe's, and the bits they have, as one table; worked out with fractions of
-- whole numbers, rounded once for each operation. Definitions only.
use Rattle.std.specs.Prelude.{Float, replicate, List, [], ◌∷◌}
use Rattle.std.specs.Float.Ieee.{neg}
use Rattle.body.specs.declared.Wrench.{Wrench}
use Rattle.float.specs.Notation.{half, minus_one, zero, one, rounded, two}
use Rattle.mixers.specs.Rows.{no_row}
use Rattle.mixers.specs.Slots.{vec_at}
use Rattle.mixers.specs.declared.Rows.{Rows}
use Rattle.mixers.specs.declared.Slot.TheVariants.{Lift, Motor}
use Rattle.motors.specs.Motor.{group_of, lift_group_of}
use Rattle.motors.specs.declared.MotorLayout.{MotorLayout}
use Rattle.quadplane_model.specs.Lift.{lift_wrench}
use Rattle.quadplane_model.specs.declared.LiftRotors.{LiftRotors}
use Rattle.vector.specs.Vector.{vec}
use Rattle.cases.specs.Table.{Case, is}

-- four rows of slot 0: motor, lift rotor, lift rotor, motor
unfoldable pub rows : Rows
rows = record {
  rows =
      record { slot = Motor 0; roll = half; pitch = half; yaw = half }
      ∷ record { slot = Lift 0; roll = half; pitch = half; yaw = half }
      ∷ record { slot = Lift 0; roll = one; pitch = minus_one; yaw = two }
      ∷ record { slot = Motor 0; roll = two; pitch = two; yaw = two }
      ∷ replicate 12 no_row;
  count = 4;
}

-- 20 N at full command, the square, an arm of 0.5 m, a yaw torque of 0.1 m
unfoldable pub layout : MotorLayout
layout = record {
  moment_arm_m = half;
  yaw_torque_per_thrust_m = rounded 1 10;
  max_thrust_n = rounded 20 1;
  thrust_exponent = two;
}

-- a drag of 0.3
unfoldable pub rotors : LiftRotors
rotors = record { motors = lift_group_of rows layout half; drag_per_thrust_n_per_mps = rounded 3 10 }

-- slot 0 at 0.5 gives 5 N, slot 5, which no row names, at 0.25 gives 1.25 N
unfoldable pub running : List Float
running = half ∷ zero ∷ zero ∷ zero ∷ zero ∷ rounded 1 4 ∷ zero ∷ zero ∷ []

-- 3 m/s forward, 2 to the left, 9 downward
unfoldable pub wrench : Wrench
wrench = lift_wrench rotors running (vec (rounded 3 1) (neg two) (rounded 9 1))

unfoldable pub lifts : List Case
lifts =
    -- 0.3 · 6.25 is 1.8750001, and three times that 5.6250005; 3 · 0.3 first would give 5.625
    is wrench.force_n.x 0xC0B40001
    ∷ is wrench.force_n.y 0x40700001
    -- 6.25 N upwards
    ∷ is wrench.force_n.z 0xC0C80000
    -- the last row of a lift rotor counts: 0.5 m, -0.5 m and 0.2 m by 5 N
    ∷ is wrench.torque_nm.x 0x40200000
    ∷ is wrench.torque_nm.y 0xC0200000
    ∷ is wrench.torque_nm.z 0x3F800000
    -- and the last row of a motor, for the motor: twice 0.5 m
    ∷ is (vec_at (group_of rows layout half).torque_per_thrust_m 0).x 0x3F800000
    ∷ []

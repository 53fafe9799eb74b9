-- The motors (01, module 2), and the lift rotors, which are a second group of such (02, 5). Definitions only.
use Rattle.std.specs.Prelude.{ℕ, ltb, Float, replicate, set, Bool, cond, false, true, List}
use Rattle.std.specs.Float.Ieee.{eq}
use Rattle.fixed_wing.specs.Falloff.{falloff_share}
use Rattle.fixed_wing.specs.declared.ThrustFalloff.{ThrustFalloff}
use Rattle.float.specs.Notation.{◌⊗◌, zero, one, two}
use Rattle.lag.specs.Lag.{approach_saturated, factor_of}
use Rattle.libm.specs.Pow.{pow_of}
use Rattle.mixers.specs.Rows.{live_of, put_to}
use Rattle.mixers.specs.Slots.{at, flag_at, slots, sum_to, vec_at, vec_sum_to}
use Rattle.mixers.specs.declared.MixRow.{MixRow}
use Rattle.mixers.specs.declared.Rows.{Rows}
use Rattle.mixers.specs.declared.Slot.{Slot}
use Rattle.mixers.specs.declared.Slot.TheVariants.{Lift, Motor, Servo}
use Rattle.vector.specs.Vector.{scale_of, vec, zero_vec}
use Rattle.vector.specs.declared.Vec3.{Vec3}
use Rattle.motors.specs.declared.MotorGroup.{MotorGroup}
use Rattle.motors.specs.declared.MotorLayout.{MotorLayout}
use Rattle.motors.specs.declared.MotorWrench.{MotorWrench}
use Rattle.motors.specs.declared.Motors.{Motors}

-- ---- a group from the mixer's rows

-- no row yet: no motor is driven
unfoldable pub empty_group : MotorLayout → Float → MotorGroup
empty_group l tau = record {
  layout = l;
  time_constant_s = tau;
  used = replicate 8 false;
  torque_per_thrust_m = replicate 8 zero_vec;
}

-- a roll or pitch factor acts at the arm, a yaw factor gives the yaw torque
unfoldable pub torque_of : MotorLayout → MixRow → Vec3
torque_of l row = vec (row.roll ⊗ l.moment_arm_m) (row.pitch ⊗ l.moment_arm_m) (row.yaw ⊗ l.yaw_torque_per_thrust_m)

unfoldable pub put_motor : MotorGroup → ℕ → Vec3 → MotorGroup
put_motor g k t = cond (ltb k 8)
    (record {
      layout = g.layout;
      time_constant_s = g.time_constant_s;
      used = set g.used k true;
      torque_per_thrust_m = set g.torque_per_thrust_m k t;
    })
    g

-- the motors skip a servo's row and a lift rotor's
unfoldable pub put_motor_at : MotorGroup → Slot → Vec3 → MotorGroup
put_motor_at g (Motor k) t = put_motor g k t
put_motor_at g (Servo k) t = g
put_motor_at g (Lift k) t = g

-- the lift rotors skip all rows but their own (02, 5)
unfoldable pub put_lift_at : MotorGroup → Slot → Vec3 → MotorGroup
put_lift_at g (Motor k) t = g
put_lift_at g (Servo k) t = g
put_lift_at g (Lift k) t = put_motor g k t

unfoldable pub put_motor_row : MotorGroup → MixRow → MotorGroup
put_motor_row g row = put_motor_at g row.slot (torque_of g.layout row)

unfoldable pub put_lift_row : MotorGroup → MixRow → MotorGroup
put_lift_row g row = put_lift_at g row.slot (torque_of g.layout row)

-- of several rows for one slot the last counts, within its own group only
unfoldable pub group_of : Rows → MotorLayout → Float → MotorGroup
group_of rows l tau = put_to put_motor_row (empty_group l tau) rows.rows (live_of rows)

unfoldable pub lift_group_of : Rows → MotorLayout → Float → MotorGroup
lift_group_of rows l tau = put_to put_lift_row (empty_group l tau) rows.rows (live_of rows)

-- ---- f of module 2
unfoldable pub lag_factor : MotorGroup → Float → Float
lag_factor g h = factor_of h g.time_constant_s

-- ---- spinning: only used motors do; a NaN command goes to neutral 0
unfoldable pub spun : Bool → Float → Float → Float → Float
spun u running command factor = cond u (approach_saturated running command zero one zero factor) running

unfoldable pub spin_at : Motors → List Float → Float → ℕ → Float
spin_at m commands factor k = spun (flag_at m.group.used k) (at m.running k) (at commands k) factor

unfoldable pub spin_of : Motors → List Float → Float → Motors
spin_of m commands factor = record {
  group = m.group;
  running = slots (spin_at m commands factor);
  thrust_scale = m.thrust_scale;
}

-- ---- thrust and torque. A share is a power of the running value (02, 4), with the exponent 2 its square
unfoldable pub thrust_fraction : Float → Float → Float
thrust_fraction running exponent = cond (eq exponent two) (running ⊗ running) (pow_of running exponent)

-- thrust_scale · max · share · falloff, from the left; the falloff is of the share before it is scaled (02, 2)
unfoldable pub thrust_of : MotorLayout → (Float → Float) → Float → Float → Float
thrust_of l falloff scale running =
    let share = thrust_fraction running l.thrust_exponent in
    scale ⊗ l.max_thrust_n ⊗ share ⊗ falloff share

-- the thrust at a slot, used or not
unfoldable pub slot_thrust : Motors → (Float → Float) → ℕ → Float
slot_thrust m falloff k = thrust_of m.group.layout falloff (at m.thrust_scale k) (at m.running k)

unfoldable pub slot_torque : Motors → (Float → Float) → ℕ → Vec3
slot_torque m falloff k = scale_of (vec_at m.group.torque_per_thrust_m k) (slot_thrust m falloff k)

-- the sums over all 8 slots
unfoldable pub wrench_by : Motors → (Float → Float) → MotorWrench
wrench_by m falloff = record {
  thrust_n = sum_to (slot_thrust m falloff) 8;
  torque_nm = vec_sum_to (slot_torque m falloff) 8;
}

-- what the forward airspeed u leaves of a share (01, module 4)
abbrev pub falloff_at : ThrustFalloff → MotorLayout → Float → Float → Float
falloff_at falloff l u share = falloff_share falloff l.max_thrust_n share u

unfoldable pub wrench_with : Motors → ThrustFalloff → Float → MotorWrench
wrench_with m falloff u = wrench_by m (falloff_at falloff m.group.layout u)

-- falloff shares of 1 (02, 5)
abbrev pub no_falloff : Float → Float
no_falloff share = one

unfoldable pub wrench_without_falloff : Motors → MotorWrench
wrench_without_falloff m = wrench_by m no_falloff

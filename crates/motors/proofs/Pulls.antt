-- A group's thrust and torque by a formula of a slot's thrust: formulas that agree on each slot give the same. Assumes nothing.
use Prim.Native.Nat.{◌<◌, ℕ}
use lib.Ieee.{Float}
use mathlib.Core.Path.{◌≡◌}
use native.Mathlib.Omega.{arith}
use Rattle.fixed_wing.specs.declared.ThrustFalloff.{ThrustFalloff}
use Rattle.mixers.specs.Slots.{at, sum_to, vec_at, vec_sum_to}
use Rattle.vector.specs.Vector.{scale_of}
use Rattle.motors.specs.Motor.{falloff_at, slot_thrust, slot_torque, thrust_of, wrench_by, wrench_with}
use Rattle.motors.specs.declared.MotorLayout.{MotorLayout}
use Rattle.motors.specs.declared.MotorWrench.{MotorWrench}
use Rattle.motors.specs.declared.Motors.{Motors}

-- a slot's thrust, as `thrust_of` is one: of the layout, what the air leaves of a share, the slot's scale and its running value
abbrev pub ThrustFormula : Type 0
ThrustFormula = MotorLayout → (Float → Float) → Float → Float → Float

abbrev pub thrust_at : ThrustFormula → Motors → ThrustFalloff → Float → ℕ → Float
thrust_at formula m falloff u k = formula m.group.layout (falloff_at falloff m.group.layout u) (at m.thrust_scale k) (at m.running k)

-- the sums over all 8 slots
abbrev pub pull_by : ThrustFormula → Motors → ThrustFalloff → Float → MotorWrench
pull_by formula m falloff u = record {
  thrust_n = sum_to (thrust_at formula m falloff u) 8;
  torque_nm = vec_sum_to (λ (k : ℕ). scale_of (vec_at m.group.torque_per_thrust_m k) (thrust_at formula m falloff u k)) 8;
}

module _ (m : Motors) (falloff : ThrustFalloff) (u : Float) where
  pub pull-same : (one other : ThrustFormula) → ((k : ℕ) → k < 8 → thrust_at one m falloff u k ≡ thrust_at other m falloff u k)
      → pull_by one m falloff u ≡ pull_by other m falloff u
  unfolding sum_to vec_sum_to
  pull-same one other h =
      rw (
        h 0 (omega arith),
        h 1 (omega arith),
        h 2 (omega arith),
        h 3 (omega arith),
        h 4 (omega arith),
        h 5 (omega arith),
        h 6 (omega arith),
        h 7 (omega arith),
      )

  -- and so for the definition's own
  pub pull-by : (other : ThrustFormula) → ((k : ℕ) → k < 8 → thrust_at thrust_of m falloff u k ≡ thrust_at other m falloff u k)
      → wrench_with m falloff u ≡ pull_by other m falloff u
  unfolding wrench_with wrench_by slot_thrust slot_torque
  pull-by other h = pull-same thrust_of other h

-- The base's motors, before 02: with scales of 1 and the exponent 2 a motor's thrust is (max · running²) · falloff, and the group's
-- thrust and torque are the sums of such thrusts. Assumes nothing.
use lib.Dec.{T}
use lib.Ieee.{Float, binary32, eq, fits}
use lib.ListN.{replicate}
use mathlib.Core.Bool.{true}
use mathlib.Core.Path.{◌∙◌, ◌≡◌}
use Rattle.fixed_wing.specs.declared.ThrustFalloff.{ThrustFalloff}
use Rattle.float.specs.Notation.{◌⊗◌, one, two}
use Rattle.mixers.specs.Slots.{at}
use Rattle.motors.proofs.Pulls.{pull-same, pull_by}
use Rattle.motors.proofs.Scales.{built_thrust, pull-as-built}
use Rattle.motors.proofs.Shares.{share-as-square}
use Rattle.motors.specs.Motor.{wrench_with}
use Rattle.motors.specs.declared.MotorLayout.{MotorLayout}
use Rattle.motors.specs.declared.MotorWrench.{MotorWrench}
use Rattle.motors.specs.declared.Motors.{Motors}

-- the formula without a scale, and with the square as the share
abbrev pub base_thrust : MotorLayout → (Float → Float) → Float → Float → Float
base_thrust l falloff scale running =
    let share = running ⊗ running in
    l.max_thrust_n ⊗ share ⊗ falloff share

-- and of a group
abbrev pub base_pull : Motors → ThrustFalloff → Float → MotorWrench
base_pull = pull_by base_thrust

pub pull-as-base : (m : Motors) (falloff : ThrustFalloff) (u : Float) → m.thrust_scale ≡ replicate 8 one
    → T (fits binary32 m.group.layout.max_thrust_n) → eq m.group.layout.thrust_exponent two ≡ true
    → wrench_with m falloff u ≡ base_pull m falloff u
pull-as-base m falloff u e h s =
    pull-as-built m falloff u e h ∙ pull-same m falloff u built_thrust base_thrust
    (λ k l. rw (share-as-square (at m.running k) m.group.layout.thrust_exponent s))

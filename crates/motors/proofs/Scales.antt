-- Motors as built (02, 2): with a scale of 1 a motor's thrust is (max · share) · falloff, and with scales of 1 the group's thrust
-- and torque are the sums of such thrusts. Assumes nothing.
use lib.Dec.{T}
use lib.Ieee.{Float, binary32, fits, nan}
use lib.ListN.{get_or-replicate, replicate}
use mathlib.Core.List.{List}
use mathlib.Core.Path.{◌∙◌, ◌≡◌, ap}
use Rattle.fixed_wing.specs.declared.ThrustFalloff.{ThrustFalloff}
use Rattle.float.proofs.Exact.{one-times}
use Rattle.float.specs.Notation.{◌⊗◌, one}
use Rattle.mixers.specs.Slots.{at}
use Rattle.motors.proofs.Pulls.{pull-by, pull_by}
use Rattle.motors.specs.Motor.{falloff_at, thrust_fraction, thrust_of, wrench_with}
use Rattle.motors.specs.declared.MotorLayout.{MotorLayout}
use Rattle.motors.specs.declared.MotorWrench.{MotorWrench}
use Rattle.motors.specs.declared.Motors.{Motors}

-- the formula without a scale
abbrev pub built_thrust : MotorLayout → (Float → Float) → Float → Float → Float
built_thrust l falloff scale running =
    let share = thrust_fraction running l.thrust_exponent in
    l.max_thrust_n ⊗ share ⊗ falloff share

-- and of a group
abbrev pub built_pull : Motors → ThrustFalloff → Float → MotorWrench
built_pull = pull_by built_thrust

-- the most thrust being a 32-bit float, as its type tells
pub as-built : (l : MotorLayout) (falloff : Float → Float) (scale running : Float) → scale ≡ one → T (fits binary32 l.max_thrust_n)
    → thrust_of l falloff scale running ≡ built_thrust l falloff scale running
unfolding thrust_of
as-built l falloff scale running e h = rw (e, one-times binary32 l.max_thrust_n h)

pub pull-as-built : (m : Motors) (falloff : ThrustFalloff) (u : Float) → m.thrust_scale ≡ replicate 8 one
    → T (fits binary32 m.group.layout.max_thrust_n) → wrench_with m falloff u ≡ built_pull m falloff u
pull-as-built m falloff u e h =
    pull-by m falloff u built_thrust
    (λ k l. as-built m.group.layout (falloff_at falloff m.group.layout u) (at m.thrust_scale k) (at m.running k)
    (ap (λ (xs : List Float). at xs k) e ∙ get_or-replicate 8 k one nan l) h)

-- The share of full thrust (02, 4): from 0 to 1 for a running value from 0 to 1 and an exponent from 1 to 3; and with the exponent
-- 2 a motor's thrust is that of the running value's square, as it was. Assumes nothing.
use lib.Dec.{T}
use lib.Ieee.{Float, binary32, eq, fits, le, mul, round}
use mathlib.Core.Bool.{true}
use mathlib.Core.Path.{◌≡◌}
use Rattle.fixed_wing.specs.declared.ThrustFalloff.{ThrustFalloff}
use Rattle.float.proofs.Interval.{mul_in}
use Rattle.float.proofs.Tests.{either}
use Rattle.float.specs.Interval.{Within}
use Rattle.float.specs.Notation.{◌⊗◌, zero, one, two}
use Rattle.libm.proofs.PowRange.{pow-in, three}
use Rattle.mixers.specs.Slots.{at}
use Rattle.motors.proofs.Pulls.{pull-by, pull_by}
use Rattle.motors.specs.Motor.{falloff_at, thrust_fraction, thrust_of, wrench_with}
use Rattle.motors.specs.declared.MotorLayout.{MotorLayout}
use Rattle.motors.specs.declared.MotorWrench.{MotorWrench}
use Rattle.motors.specs.declared.Motors.{Motors}

-- ---- where it lies
pub share_in : (running exponent : Float) → T (fits binary32 running) → Within zero one running → Within one three exponent
    → Within zero one (thrust_fraction running exponent)
unfolding thrust_fraction
share_in running exponent f w e =
    either (Within zero one) (eq exponent two)
    (unfold mul round in mul_in binary32 zero one running one running tt tt tt (unfold le in tt) (unfold le in tt) w w)
    (pow-in running exponent f w e)

-- ---- the exponent 2
pub share-as-square : (running exponent : Float) → eq exponent two ≡ true → thrust_fraction running exponent ≡ running ⊗ running
unfolding thrust_fraction
share-as-square running exponent h = rw h

abbrev pub square_thrust : MotorLayout → (Float → Float) → Float → Float → Float
square_thrust l falloff scale running =
    let share = running ⊗ running in
    scale ⊗ l.max_thrust_n ⊗ share ⊗ falloff share

abbrev pub square_pull : Motors → ThrustFalloff → Float → MotorWrench
square_pull = pull_by square_thrust

pub as-square : (l : MotorLayout) (falloff : Float → Float) (scale running : Float) → eq l.thrust_exponent two ≡ true
    → thrust_of l falloff scale running ≡ square_thrust l falloff scale running
unfolding thrust_of
as-square l falloff scale running h = rw (share-as-square running l.thrust_exponent h)

pub pull-as-square : (m : Motors) (falloff : ThrustFalloff) (u : Float) → eq m.group.layout.thrust_exponent two ≡ true
    → wrench_with m falloff u ≡ square_pull m falloff u
pull-as-square m falloff u h =
    pull-by m falloff u square_thrust (λ k l. as-square m.group.layout (falloff_at falloff m.group.layout u) (at m.thrust_scale k)
    (at m.running k) h)

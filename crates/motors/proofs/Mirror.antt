-- The motors in a reflected flight: the same thrust as data, and the reflected torque. Assumes nothing.
use Prim.Native.Nat.{ℕ}
use lib.Ieee.{Float}
use mathlib.Core.Bool.{false, true}
use mathlib.Core.List.{List}
use mathlib.Core.Path.{◌∙◌, ◌≡◌, ap, refl}
use Rattle.fixed_wing.proofs.Mirror.{falloff-is}
use Rattle.fixed_wing.specs.declared.ThrustFalloff.{ThrustFalloff}
use Rattle.float.proofs.Mirror.{r-is}
use Rattle.float.specs.Same.{Rel}
use Rattle.lag.specs.Lag.{factor_of}
use Rattle.mixers.proofs.Reflected.{reflect-axes}
use Rattle.mixers.proofs.Sums.{sum_same, vec-sum-mirror}
use Rattle.mixers.specs.Slots.{at}
use Rattle.vector.proofs.Mirror.{scale-mirror}
use Rattle.vector.specs.Reflection.{VecRel}
use Rattle.motors.specs.Motor.{lag_factor, falloff_at, slot_thrust, slot_torque, spin_at, spin_of, thrust_fraction, thrust_of}
use Rattle.motors.specs.Motor.{wrench_by, wrench_without_falloff, wrench_with}
use Rattle.motors.specs.Reflection.{GroupRel, reflect_group}
use Rattle.motors.specs.declared.MotorGroup.{MotorGroup}
use Rattle.motors.specs.declared.MotorLayout.{MotorLayout}
use Rattle.motors.specs.declared.MotorWrench.{MotorWrench}
use Rattle.motors.specs.declared.Motors.{Motors}

-- a group and its reflection, whose motors run alike and are as strong
pub record MotorsRel (m m' : Motors) : Type 0 where
  pub group : GroupRel m.group m'.group
  pub running : m'.running ≡ m.running
  pub scale : m'.thrust_scale ≡ m.thrust_scale

-- the reflection by flipping sign bits is one
pub reflect-group : (g : MotorGroup) → GroupRel g (reflect_group g)
unfolding reflect_group
reflect-group g = record { layout = refl; time-constant = refl; used = refl; torque = reflect-axes g.torque_per_thrust_m }

pub lag-factor-is : {g g' : MotorGroup} (h : Float) → GroupRel g g' → lag_factor g' h ≡ lag_factor g h
unfolding lag_factor
lag-factor-is h r = ap (factor_of h) r.time-constant

pub spin-mirror : {m m' : Motors} (commands : List Float) (factor : Float)
    → MotorsRel m m' → MotorsRel (spin_of m commands factor) (spin_of m' commands factor)
unfolding spin_of spin_at
spin-mirror commands factor h = record { group = h.group; running = rw (h.group.used, h.running); scale = h.scale }

-- thrust and torque, by falloffs that leave the same of each share
slot-thrust-is : {m m' : Motors} {left left' : Float → Float} → MotorsRel m m' → ((share : Float) → left' share ≡ left share) → (k : ℕ)
    → slot_thrust m' left' k ≡ slot_thrust m left k
unfolding slot_thrust thrust_of
slot-thrust-is {m} h l k = rw (h.group.layout, h.running, h.scale, l (thrust_fraction (at m.running k) m.group.layout.thrust_exponent))

slot-torque-mirror : {m m' : Motors} {left left' : Float → Float} → MotorsRel m m' → ((share : Float) → left' share ≡ left share) → (k : ℕ)
    → VecRel true (slot_torque m left k) (slot_torque m' left' k)
unfolding slot_torque
slot-torque-mirror h l k = scale-mirror (h.group.torque k) (r-is (slot-thrust-is h l k))

-- what two groups pull that are each other's reflections
pub record PullRel (p p' : MotorWrench) : Type 0 where
  pub thrust : p'.thrust_n ≡ p.thrust_n
  pub torque : VecRel true p.torque_nm p'.torque_nm

by-mirror : {m m' : Motors} {left left' : Float → Float} → MotorsRel m m' → ((share : Float) → left' share ≡ left share)
    → PullRel (wrench_by m left) (wrench_by m' left')
unfolding wrench_by
by-mirror h l = record { thrust = sum_same 8 (slot-thrust-is h l); torque = vec-sum-mirror true 8 (slot-torque-mirror h l) }

pub pull-mirror : {m m' : Motors} {u u' : Float} (f : ThrustFalloff) → MotorsRel m m' → Rel false u u' → PullRel (wrench_with m f u) (wrench_with m' f u')
unfolding wrench_with
pull-mirror {m} {u'} f h r =
    by-mirror h (λ share. ap (λ (l : MotorLayout). falloff_at f l u' share) h.group.layout
    ∙ falloff-is f m.group.layout.max_thrust_n share r)

-- where nothing falls off
pub full-pull-mirror : {m m' : Motors} → MotorsRel m m' → PullRel (wrench_without_falloff m) (wrench_without_falloff m')
unfolding wrench_without_falloff
full-pull-mirror h = by-mirror h (λ share. refl)

-- Where the motors' running values lie after spinning, by the lag's rounding bound: a used motor's stays in 0..1, and an unused
-- motor does not move. Assumes nothing.
use Prim.Native.Nat.{◌<◌, ℕ}
use lib.Dec.{T}
use lib.Ieee.{Float, binary32, fits, nan}
use mathlib.Core.Bool.{Bool, cond, false, true}
use mathlib.Core.List.{List, []}
use mathlib.Core.Path.{◌∙◌, ◌≡◌, refl, subst, sym}
use Rattle.float.specs.Interval.{Within}
use Rattle.float.specs.Notation.{zero, one}
use Rattle.lag.proofs.Range.{approach-fits, motor-in}
use Rattle.lag.specs.Lag.{approach_of, approach_saturated, saturated}
use Rattle.mixers.proofs.Slots.{slots_at}
use Rattle.mixers.specs.Slots.{at, flag_at}
use Rattle.motors.specs.Motor.{spin_at, spin_of, spun}
use Rattle.motors.specs.Running.{MotorsInRange}
use Rattle.motors.specs.declared.Motors.{Motors}

-- a slot that is marked as used
pub spin-in : (m : Motors) (commands : List Float) (factor : Float) (k : ℕ) → T (fits binary32 (at m.running k))
    → Within zero one (at m.running k) → Within zero one factor → Within zero one (spin_at m commands factor k)
unfolding spin_at spun
spin-in m commands factor k g w f = go (flag_at m.group.used k)
  where
    go : (u : Bool) → Within zero one (cond u (approach_saturated (at m.running k) (at commands k) zero one zero factor) (at m.running k))
    go true = motor-in (at m.running k) (at commands k) factor g w f
    go false = w

-- a slot that is not
pub spin-still : (m : Motors) (commands : List Float) (factor : Float) (k : ℕ) → flag_at m.group.used k ≡ false
    → spin_at m commands factor k ≡ at m.running k
unfolding spin_at spun
spin-still m commands factor k e = rw e

-- what it runs at is a value of the format again
pub spin-fits : (m : Motors) (commands : List Float) (factor : Float) (k : ℕ) → T (fits binary32 (at m.running k))
    → T (fits binary32 (spin_at m commands factor k))
unfolding spin_at spun approach_saturated
spin-fits m commands factor k g = go (flag_at m.group.used k)
  where
    go : (u : Bool) → T (fits binary32 (cond u (approach_of (at m.running k) (saturated zero one zero (at commands k)) factor) (at m.running k)))
    go true = approach-fits (at m.running k) (saturated zero one zero (at commands k)) factor
    go false = g

-- ---- a whole group

-- the running values of all its motors, used or not, since the envelope tests them all
pub record Running (running : List Float) : Type 0 where
  pub motor : (k : ℕ) → k < 8 → Within zero one (at running k)

-- the motors that the marks leave out have the running values of `start`
pub record UnusedUnchanged (used : List Bool) (start running : List Float) : Type 0 where
  pub motor : (k : ℕ) → k < 8 → flag_at used k ≡ false → at running k ≡ at start k

-- what the values' type tells: each is a value of the 32-bit format
pub record Representable (running : List Float) : Type 0 where
  pub motor : (k : ℕ) → k < 8 → T (fits binary32 (at running k))

module _ (m : Motors) (commands : List Float) (factor : Float) where
  slot : (k : ℕ) → k < 8 → at (spin_of m commands factor).running k ≡ spin_at m commands factor k
  unfolding spin_of
  slot k l = slots_at nan (spin_at m commands factor) [] k l

  pub spin-running : Representable m.running → Running m.running → Within zero one factor → Running (spin_of m commands factor).running
  spin-running g r f = record {
    motor = λ k l. subst (λ (x : Float). Within zero one x) (sym (slot k l)) (spin-in m commands factor k (g.motor k l) (r.motor k l) f);
  }

  pub spin-leaves : UnusedUnchanged m.group.used m.running (spin_of m commands factor).running
  spin-leaves = record { motor = λ k l u. slot k l ∙ spin-still m commands factor k u }

  pub spin-representable : Representable m.running → Representable (spin_of m commands factor).running
  spin-representable g = record {
    motor = λ k l. subst (λ (x : Float). T (fits binary32 x)) (sym (slot k l)) (spin-fits m commands factor k (g.motor k l));
  }

pub unused-unchanged-same : (used : List Bool) (xs : List Float) → UnusedUnchanged used xs xs
unused-unchanged-same used xs = record { motor = λ k l u. refl }

pub unused-unchanged-after : {used : List Bool} {xs ys zs : List Float} → UnusedUnchanged used xs ys → UnusedUnchanged used ys zs → UnusedUnchanged used xs zs
unused-unchanged-after h k = record { motor = λ j l u. k.motor j l u ∙ h.motor j l u }

pub in-range : {used : List Bool} {start running : List Float} → Running running → UnusedUnchanged used start running → MotorsInRange used start running
in-range r s = record { driven = λ k l u. r.motor k l; unused = s.motor }

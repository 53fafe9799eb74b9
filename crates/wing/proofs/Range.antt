-- Where a tick leaves the running values, by the lag's rounding bound and not by test 9: of an accepted airframe and an accepted
-- step, from motors of both groups in 0..1 and surfaces in
-- -1..1, the next state's lie there again, an unused motor runs as before, without lift numbers every lift rotor does, and the
-- thrust scales are those of before. So test 9 never fires on a running value or a scale. Assumes nothing.
use Prim.Native.Nat.{◌<◌, ℕ}
use lib.Ieee.{Float, nan}
use mathlib.Core.Bool.{false, true}
use mathlib.Core.List.{List, []}
use mathlib.Core.Path.{◌∙◌, ◌≡◌, refl, subst, sym}
use native.Mathlib.Omega.{arith}
use Rattle.airframe.proofs.Range.{lift-constant-in, motor-constant-in, servo-constant-in}
use Rattle.airframe.specs.Acceptance.{refused_place}
use Rattle.airframe.specs.declared.Airframe.{Airframe}
use Rattle.flight.proofs.Range.{lift-within, motor-within, scale-within, servo-within}
use Rattle.flight.specs.Envelope.{outside_of, slot_inside, slots_outside}
use Rattle.flight.specs.declared.Flight.{Flight}
use Rattle.flight.specs.declared.Tick.{Tick}
use Rattle.float.proofs.Bounds.{inside-within, within-inside}
use Rattle.float.proofs.Tests.{by_cases}
use Rattle.ordered.proofs.Ordered.{none-fails}
use Rattle.float.specs.Interval.{Within, inside}
use Rattle.float.specs.Notation.{minus_one, zero, one}
use Rattle.lag.proofs.Range.{factor-in}
use Rattle.lag.specs.Lag.{factor_of, step_least, step_most}
use Rattle.mixers.proofs.Slots.{slots_at}
use Rattle.mixers.specs.Slots.{at}
use Rattle.motors.proofs.Range as Group
use Rattle.motors.proofs.Range.{spin-representable, spin-leaves, spin-running, unused-unchanged-same}
use Rattle.motors.specs.Motor.{lag_factor, spin_of}
use Rattle.quadplane_model.specs.Lift.{rotors_at, rotors_spun}
use Rattle.surfaces.proofs.Range.{move_in}
use Rattle.surfaces.specs.Surface.{move_at, move_to}
use Rattle.wing.specs.Loads.{motors_for, surfaces_for}
use Rattle.wing.proofs.Passed.{tick-cases}
use Rattle.wing.proofs.Running.{Representable, Running, UnusedUnchanged}
use Rattle.wing.specs.Tick.{lift_spun, lifted_of, moved_of, next_of, next_with, refused_of, spun_of, stepped_of, tick_of}
use Rattle.wing.specs.declared.TickResult.{TickResult}

-- ---- the next state
next-motors : (a : Airframe) (f : Flight) (t : Tick)
    → (next_of a f t).flight.motors ≡ (spin_of (motors_for a f) t.motors (lag_factor a.motors t.step_s)).running
unfolding next_with stepped_of spun_of
next-motors a f t = refl

next-servo : (a : Airframe) (f : Flight) (t : Tick) (k : ℕ) → k < 8
    → at (next_of a f t).flight.servos k ≡ move_at (surfaces_for a f) t.servos (factor_of t.step_s a.model.servo_time_constant_s) k
unfolding next_with stepped_of moved_of move_to
next-servo a f t k l = slots_at nan (move_at (surfaces_for a f) t.servos (factor_of t.step_s a.model.servo_time_constant_s)) [] k l

pub next-scale : (a : Airframe) (f : Flight) (t : Tick) → (next_of a f t).flight.thrust_scale ≡ f.thrust_scale
unfolding next_with stepped_of
next-scale a f t = refl

-- the lift rotors, where there are lift numbers and where not
module _ (a : Airframe) (f : Flight) (t : Tick) where
  abbrev rotors : List Float
  rotors = f.lift_motors

  pub next-lift : (next_of a f t).flight.lift_motors ≡ lifted_of a f t
  unfolding next_with stepped_of
  next-lift = refl

  lift-running : refused_place a ≡ 0 → inside step_least step_most t.step_s ≡ true → Group.Representable rotors → Group.Running rotors
      → Group.Running (lifted_of a f t)
  unfolding lifted_of lift_spun rotors_spun rotors_at lag_factor
  lift-running e s g r =
      by_cases Group.Running a.lift_present
      (λ p. spin-running (rotors_at a.lift rotors) t.motors _ g r (factor-in _ _ (inside-within s) (lift-constant-in a e p))) r

  lift-leaves : Group.UnusedUnchanged a.lift.motors.used rotors (lifted_of a f t)
  unfolding lifted_of lift_spun rotors_spun rotors_at
  lift-leaves =
      by_cases (Group.UnusedUnchanged a.lift.motors.used rotors) a.lift_present (λ p. spin-leaves (rotors_at a.lift rotors) t.motors _)
      (unused-unchanged-same _ _)

  pub lift-unmoved : a.lift_present ≡ false → lifted_of a f t ≡ rotors
  unfolding lifted_of lift_spun
  lift-unmoved p = rw p

  lift-representable : Group.Representable rotors → Group.Representable (lifted_of a f t)
  unfolding lifted_of lift_spun rotors_spun rotors_at
  lift-representable g = by_cases Group.Representable a.lift_present (λ p. spin-representable (rotors_at a.lift rotors) t.motors _ g) g

module _ (a : Airframe) (f : Flight) (t : Tick) where
  pub next-running : refused_place a ≡ 0 → inside step_least step_most t.step_s ≡ true → Representable f → Running f → Running (next_of a f t).flight
  unfolding motors_for surfaces_for lag_factor
  next-running e s g r = record {
    motors = subst Group.Running (sym (next-motors a f t))
        (spin-running (motors_for a f) t.motors _ g.motors r.motors (factor-in _ _ (inside-within s) (motor-constant-in a e)));
    servo =
        λ k l. subst (λ (x : Float). Within minus_one one x) (sym (next-servo a f t k l))
        (move_in (surfaces_for a f) t.servos _ k (r.servo k l) (factor-in _ _ (inside-within s) (servo-constant-in a e)));
    scale = subst (λ (xs : List Float). (k : ℕ) → k < 8 → Within zero one (at xs k)) (sym (next-scale a f t)) r.scale;
    lift = subst Group.Running (sym (next-lift a f t)) (lift-running a f t e s g.lift r.lift);
  }

  pub next-unused-unchanged : UnusedUnchanged a f (next_of a f t).flight
  unfolding motors_for
  next-unused-unchanged = record {
    motors = subst (Group.UnusedUnchanged a.motors.used f.motors) (sym (next-motors a f t)) (spin-leaves (motors_for a f) t.motors _);
    scale = next-scale a f t;
    lift = subst (Group.UnusedUnchanged a.lift.motors.used f.lift_motors) (sym (next-lift a f t)) (lift-leaves a f t);
    unlifted = λ p. next-lift a f t ∙ lift-unmoved a f t p;
  }

  pub next-representable : Representable f → Representable (next_of a f t).flight
  unfolding motors_for
  next-representable g = record {
    motors = subst Group.Representable (sym (next-motors a f t)) (spin-representable (motors_for a f) t.motors _ g.motors);
    lift = subst Group.Representable (sym (next-lift a f t)) (lift-representable a f t g.lift);
  }

-- so the tests of the running values and of the scales, the envelope's last, pass: 9 never fires on one
pub running-inside : (f : Flight) → Running f → (slots_outside zero one f.motors ≡ 0) × (slots_outside minus_one one f.servos ≡ 0)
    × (slots_outside zero one f.thrust_scale ≡ 0) × (slots_outside zero one f.lift_motors ≡ 0)
unfolding slots_outside slot_inside
running-inside f r = (
  none-fails _ 0 8 (λ k l. within-inside (r.motors.motor k (omega (arith, l)))),
  none-fails _ 0 8 (λ k l. within-inside (r.servo k (omega (arith, l)))),
  none-fails _ 0 8 (λ k l. within-inside (r.scale k (omega (arith, l)))),
  none-fails _ 0 8 (λ k l. within-inside (r.lift.motor k (omega (arith, l)))),
)

-- ---- a tick, refused or not
pub record Keeps (a : Airframe) (f : Flight) (r : TickResult) : Type 0 where
  pub running : Running r.flight
  pub still : UnusedUnchanged a f r.flight
  pub held : Representable r.flight

pub tick-keeps : (a : Airframe) (f : Flight) (t : Tick) → Representable f → Running f → Keeps a f (tick_of a f t)
unfolding refused_of
tick-keeps a f t g r =
    tick-cases (Keeps a f) a f t (λ x. record {
      running = r;
      still = record { motors = unused-unchanged-same _ _; scale = refl; lift = unused-unchanged-same _ _; unlifted = λ p. refl };
      held = g;
    })
    (λ p. record { running = next-running a f t p.airframe p.step g r; still = next-unused-unchanged a f t; held = next-representable a f t g })

-- ---- an accepted state is in its ranges
pub accepted-running : (f : Flight) → outside_of f ≡ 0 → Running f
accepted-running f e =
    record {
      motors = record { motor = λ k l. motor-within f e k l };
      servo = λ k l. servo-within f e k l;
      scale = λ k l. scale-within f e k l;
      lift = record { motor = λ k l. lift-within f e k l };
    }

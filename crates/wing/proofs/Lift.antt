-- The lift rotors in a tick (02, 5). Without lift numbers a tick is the one it was: its loads are those of aerodynamics and forward
-- thrust alone, it hands the lift rotors' values back as given, and with other accepted ones its answer, its report and all other
-- numbers are the same. Assumes nothing.
use Rattle.std.specs.Prelude.{Err}
use lib.Dec.{eqb}
use lib.Ieee.{Float}
use mathlib.Core.Bool.{Bool, false, true}
use mathlib.Core.List.{List}
use mathlib.Core.Path.{◌∙◌, ◌≡◌, ap, refl}
use Rattle.airframe.specs.Acceptance.{refused_place}
use Rattle.airframe.specs.Promises.{lag_constants_of}
use Rattle.airframe.specs.declared.Airframe.{Airframe}
use Rattle.answers.specs.Answers.{Answer}
use Rattle.answers.specs.declared.Refusal.TheVariants.{Departure, NumberOutOfRange, StateOutside, StepOutside, WindUnusable}
use Rattle.body.specs.declared.Body.{Body}
use Rattle.flight.specs.Envelope.{is_inside, outside_of, slots_outside}
use Rattle.flight.specs.State.{body_of, flight_of}
use Rattle.flight.specs.declared.Flight.{Flight}
use Rattle.flight.specs.declared.Tick.{Tick}
use Rattle.float.proofs.Mirror.{by-test}
use Rattle.float.specs.Interval.{inside}
use Rattle.float.specs.Notation.{◌⊗◌, zero, one}
use Rattle.lag.specs.Lag.{step_least, step_most}
use Rattle.motors.specs.Motor.{lag_factor, wrench_with}
use Rattle.motors.specs.declared.MotorWrench.{MotorWrench}
use Rattle.surfaces.specs.declared.Surfaces.{Surfaces}
use Rattle.vector.specs.Rotation.{rotate_of}
use Rattle.vector.specs.Vector.{add_of, vec, zero_vec}
use Rattle.vector.specs.declared.Vec3.{Vec3}
use Rattle.wing.proofs.Passed.{tick-cases}
use Rattle.wing.proofs.Pulls.{Pull, tick_air, tick_pull}
use Rattle.wing.proofs.Range.{lift-unmoved, next-lift}
use Rattle.wing.specs.Promises.{lag_factors_from, begin_of, lift_factor}
use Rattle.wing.specs.Loads.{aero_of, loaded_by, loads_of, loads_under, motors_for, pull_of, surfaces_for, with_lift, with_thrust}
use Rattle.wing.specs.Tick.{accepted_tick, density_for, lift_spun, lifted_of, loads_in, moved_of, next_with, refused_of, spun_of}
use Rattle.wing.specs.Tick.{stepped_of, tick_of, tick_with, unless_departed, wind_usable}
use Rattle.wing.specs.declared.Loaded.{Loaded}
use Rattle.wing.specs.declared.TickResult.{TickResult}

-- the factor that the code keeps, which is 0 without lift numbers, serves as the lag's own
pub held-factor : (a : Airframe) (f : Flight) (t : Tick) → lift_spun a f t.motors (begin_of a t.step_s).lift ≡ lifted_of a f t
unfolding lifted_of lift_spun lift_factor lag_factors_from lag_constants_of lag_factor
held-factor a f t = go a.lift_present refl
  where
    go : (b : Bool) → a.lift_present ≡ b → lift_spun a f t.motors (begin_of a t.step_s).lift ≡ lift_spun a f t.motors
        (lag_factor a.lift.motors t.step_s)
    go true p = rw p refl
    go false p = rw p refl

-- ---- without lift numbers: the loads as they were
abbrev pub unlifted_under : Airframe → MotorWrench → Surfaces → Body → Vec3 → Float → Loaded
unlifted_under a pull surfaces b air density =
    let aero = aero_of a pull.thrust_n surfaces b air density in
    record {
      loads = record {
        force_ned_n = rotate_of b.attitude (add_of aero.force_n (vec pull.thrust_n zero zero));
        torque_nm = add_of (add_of aero.torque_nm pull.torque_nm) (vec zero (pull.thrust_n ⊗ a.model.thrust_line_below_cg_m) zero);
        damping_nm = zero_vec;
      };
      alpha_rad = aero.alpha_rad;
      beta_rad = aero.beta_rad;
      thrust_n = pull.thrust_n;
    }

-- and those of a tick, by its motors' pull and the density
abbrev pub unlifted_by : Pull → Airframe → Flight → Tick → Float → Loaded
unlifted_by pull a f t density = unlifted_under a (tick_pull pull a f t) (moved_of a f t) (body_of f) (tick_air f t) density

module _ (a : Airframe) (p : a.lift_present ≡ false) where
  pub loads-unlifted : (pull : MotorWrench) (surfaces : Surfaces) (lift_running : List Float) (b : Body) (air : Vec3) (density : Float)
      → loads_under a pull surfaces lift_running b air density ≡ unlifted_under a pull surfaces b air density
  unfolding loads_under loaded_by with_lift with_thrust
  loads-unlifted pull surfaces lift_running b air density = rw p refl

  -- the values of the lift rotors stay, refused or not
  pub lift-stays : (f : Flight) (t : Tick) → (tick_of a f t).flight.lift_motors ≡ f.lift_motors
  unfolding refused_of
  lift-stays f t =
      tick-cases (λ (k : TickResult). k.flight.lift_motors ≡ f.lift_motors) a f t (λ x. refl) (λ q. next-lift a f t ∙ lift-unmoved a f t p)

  pub tick-unlifted : (f : Flight) (t : Tick) → tick_of a f t ≡ tick_with a f t f.lift_motors (unlifted_by wrench_with a f t (density_for f))
  unfolding tick_of loads_in loads_of pull_of
  tick-unlifted f t =
      rw (lift-unmoved a f t p, loads-unlifted (tick_pull wrench_with a f t) (moved_of a f t) f.lift_motors (body_of f) (tick_air f t) (density_for f))

-- ---- and with other values of the lift rotors, accepted ones, all else is the same
abbrev pub with_lift_running : Flight → List Float → Flight
with_lift_running f xs = flight_of (body_of f) f.motors f.servos f.thrust_scale xs

abbrev pub handing : List Float → TickResult → TickResult
handing xs k = record { report = k.report; flight = with_lift_running k.flight xs }

module _ (a : Airframe) (p : a.lift_present ≡ false) (xs : List Float) (e : slots_outside zero one xs ≡ 0) where
  abbrev Hands : TickResult → TickResult → Type 0
  Hands k k' = k' ≡ handing xs k

  inside_too : (f : Flight) → slots_outside zero one f.lift_motors ≡ 0 → is_inside (with_lift_running f xs) ≡ is_inside f
  unfolding is_inside outside_of
  inside_too f o = rw (e, o) refl

  -- the next state by the loads as they were
  abbrev next : Flight → Tick → TickResult
  next f t = next_with a f t f.lift_motors (unlifted_by wrench_with a f t (density_for f))

  next-too : (f : Flight) (t : Tick) → Hands (next f t) (next (with_lift_running f xs) t)
  unfolding next_with stepped_of moved_of surfaces_for spun_of motors_for density_for
  next-too f t = refl

  refused-too : (x : Answer) (f : Flight) → Hands (refused_of x f) (refused_of x (with_lift_running f xs))
  unfolding refused_of
  refused-too x f = refl

  accepted-too : (f : Flight) (t : Tick) (n n' : TickResult) → slots_outside zero one f.lift_motors ≡ 0
      → slots_outside zero one n.flight.lift_motors ≡ 0 → Hands n n' → Hands (accepted_tick f t n) (accepted_tick (with_lift_running f xs) t n')
  unfolding accepted_tick unless_departed
  accepted-too f t n n' o q h =
      by-test Hands (is_inside f) (is_inside (with_lift_running f xs)) (inside_too f o)
      (λ u. by-test Hands (inside step_least step_most t.step_s) (inside step_least step_most t.step_s) refl
      (λ v. by-test Hands (wind_usable t.wind_ned_mps) (wind_usable t.wind_ned_mps) refl
      (λ w. by-test Hands (is_inside n.flight) (is_inside n'.flight) (ap (λ (k : TickResult). is_inside k.flight) h ∙ inside_too n.flight q)
      (λ z. h) (λ z. refused-too (Err Departure) f))
      (λ w. refused-too (Err WindUnusable) f))
      (λ v. refused-too (Err StepOutside) f))
      (λ u. refused-too (Err StateOutside) f)

  pub lift-apart : (f : Flight) (t : Tick) → slots_outside zero one f.lift_motors ≡ 0 → tick_of a (with_lift_running f xs) t ≡ handing xs (tick_of a f t)
  unfolding tick_with next_with stepped_of
  lift-apart f t o =
      rw (tick-unlifted a p (with_lift_running f xs) t, tick-unlifted a p f t)
      (by-test Hands (eqb (refused_place a) 0) (eqb (refused_place a) 0) refl
      (λ u. accepted-too f t (next f t) (next (with_lift_running f xs) t) o o (next-too f t))
      (λ u. refused-too (Err (NumberOutOfRange (refused_place a))) f))

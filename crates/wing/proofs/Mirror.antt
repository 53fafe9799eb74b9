-- The tick's mirror law, relationally: for airframes, states and ticks that are each other's reflections number for number, the
-- answers are equal, alpha and thrust the same, beta
-- the opposite, and the next states each other's reflections. Assumes nothing.
use Rattle.std.specs.Prelude.{Err}
use Prim.Native.Nat.{ℕ}
use lib.Dec.{eqb}
use lib.Ieee.{Float}
use lib.IntN.{pos}
use mathlib.Core.Bool.{false, true}
use mathlib.Core.List.{List}
use mathlib.Core.Path.{◌∙◌, ◌≡◌, ap, ap₂, refl, subst, sym}
use Rattle.aero.proofs.Mirror.{wrench-mirror}
use Rattle.aero.specs.Reflection.{AeroRel}
use Rattle.aero.specs.declared.Aero.{Aero}
use Rattle.air.proofs.Mirror.{density-is}
use Rattle.airframe.proofs.Mirror.{refused-place-is}
use Rattle.airframe.specs.Acceptance.{refused_place}
use Rattle.airframe.specs.Reflection.{AirframeRel}
use Rattle.airframe.specs.declared.Airframe.{Airframe}
use Rattle.answers.specs.Answers.{Answer}
use Rattle.answers.specs.declared.Refusal.TheVariants.{Departure, NumberOutOfRange, StateOutside, StepOutside, WindUnusable}
use Rattle.body.proofs.Mirror.{add-wrench-mirror, air-velocity-mirror, step-mirror}
use Rattle.body.specs.Reflection.{BodyRel, WrenchRel}
use Rattle.body.specs.declared.Body.{Body}
use Rattle.body.specs.declared.Wrench.{Wrench}
use Rattle.fixed_wing.specs.declared.FixedWingModel.{FixedWingModel}
use Rattle.flight.proofs.Mirror.{outside-is}
use Rattle.flight.specs.Envelope.{is_inside}
use Rattle.flight.specs.Reflection.{FlightRel, TickRel}
use Rattle.flight.specs.declared.Flight.{Flight}
use Rattle.flight.specs.declared.Tick.{Tick}
use Rattle.float.proofs.Mirror.{by-test, r-is, r-neg, r-same, r-zero}
use Rattle.float.specs.Interval.{inside}
use Rattle.float.specs.Notation.{◌⊗◌, zero}
use Rattle.float.specs.Same.{Rel}
use Rattle.lag.specs.Lag.{factor_of, step_least, step_most}
use Rattle.motors.proofs.Mirror.{MotorsRel, PullRel, lag-factor-is, pull-mirror, spin-mirror}
use Rattle.motors.specs.Motor.{lag_factor, spin_of}
use Rattle.motors.specs.declared.MotorWrench.{MotorWrench}
use Rattle.motors.specs.declared.Motors.{Motors}
use Rattle.quadplane_model.proofs.Mirror.{lift-mirror, rotors-mirror}
use Rattle.quadplane_model.specs.Lift.{rotors_at, rotors_spun}
use Rattle.surfaces.proofs.Mirror.{SurfacesRel, deflection-mirror, move-mirror}
use Rattle.surfaces.specs.Surface.{move_to}
use Rattle.surfaces.specs.declared.Surfaces.{Surfaces}
use Rattle.tailsitter_model.proofs.Mirror.{wash-is}
use Rattle.vector.proofs.Mirror.{add-mirror, inverse-rotate-mirror, rotate-mirror, vec-inside-is, vec-mirror, zero-mirror}
use Rattle.vector.specs.Reflection.{QuatRel, VecRel}
use Rattle.vector.specs.declared.Quaternion.{Quaternion}
use Rattle.vector.specs.declared.Vec3.{Vec3}
use Rattle.wing.specs.Loads.{aero_of, air_of, loaded_by, loads_of, loads_under, motors_for, pull_of, surfaces_for, wash_for, with_lift, with_thrust}
use Rattle.wing.specs.Reflection.{LoadedRel, TickedRel}
use Rattle.wing.specs.Tick.{accepted_tick, density_for, lift_spun, lifted_of, loads_in, mass_of, moved_of, next_of, next_with}
use Rattle.wing.specs.Tick.{refused_of, spun_of, stepped_of, tick_of, tick_with, unless_departed, wind_most, wind_usable}
use Rattle.wing.specs.declared.Loaded.{Loaded}
use Rattle.wing.specs.declared.TickResult.{TickResult}

motors-mirror : {a a' : Airframe} {f f' : Flight} → AirframeRel a a' → FlightRel f f' → MotorsRel (motors_for a f) (motors_for a' f')
unfolding motors_for
motors-mirror h k = record { group = h.motors; running = k.motors; scale = k.scale }

surfaces-mirror : {a a' : Airframe} {f f' : Flight} → AirframeRel a a' → FlightRel f f' → SurfacesRel (surfaces_for a f) (surfaces_for a' f')
unfolding surfaces_for
surfaces-mirror h k = record { weight = h.weight; running = k.servos }

air-mirror : {b b' : Body} {wind wind' : Vec3} → BodyRel b b' → VecRel false wind wind' → VecRel false (air_of b wind) (air_of b' wind')
unfolding air_of
air-mirror h k = inverse-rotate-mirror h.attitude (air-velocity-mirror h k)

-- ---- the loads, for one airframe up to its torques and weights
wash-for-is : {a a' : Airframe} {u u' : Float} (thrust density : Float) → AirframeRel a a' → Rel false u u'
    → wash_for a' thrust u' density ≡ wash_for a thrust u density
unfolding wash_for
wash-for-is {a} thrust density h r = rw (h.wash-present, h.wash, wash-is a.wash thrust density r)

with-thrust-mirror : {p p' : MotorWrench} {aero aero' : Aero} {m m' : FixedWingModel} → m' ≡ m → PullRel p p' → AeroRel aero aero'
    → WrenchRel (with_thrust m p aero) (with_thrust m' p' aero')
unfolding with_thrust
with-thrust-mirror i k h = record {
  force = add-mirror h.force (vec-mirror (r-is k.thrust) (r-zero true false false (pos 0)) (r-zero false false false (pos 0)));
  torque =
      add-mirror (add-mirror h.torque k.torque)
      (vec-mirror (r-zero true false false (pos 0)) (r-is (ap₂ (λ (z : Float) (n : FixedWingModel). z ⊗ n.thrust_line_below_cg_m) k.thrust i))
      (r-zero true false false (pos 0)));
}

with-lift-mirror : {a a' : Airframe} {xs xs' : List Float} {u u' : Vec3} {w w' : Wrench} → AirframeRel a a' → xs' ≡ xs → VecRel false u u'
    → WrenchRel w w' → WrenchRel (with_lift a xs u w) (with_lift a' xs' u' w')
unfolding with_lift
with-lift-mirror {a} {a'} h e air k =
    by-test WrenchRel a.lift_present a'.lift_present h.lift-present (λ p. add-wrench-mirror k (lift-mirror h.lift e air)) (λ p. k)

loaded-mirror : {q q' : Quaternion} {w w' : Wrench} {aero aero' : Aero} {z z' : Float} → QuatRel q q' → WrenchRel w w' → AeroRel aero aero' → z' ≡ z
    → LoadedRel (loaded_by q w aero z) (loaded_by q' w' aero' z')
unfolding loaded_by
loaded-mirror q k h e = record {
  loads = record { force = rotate-mirror q k.force; torque = k.torque; damping = zero-mirror true };
  alpha = h.alpha;
  beta = h.beta;
  thrust = r-is e;
}

pull-for-mirror : {a a' : Airframe} {m m' : Motors} {u u' : Vec3} → AirframeRel a a' → MotorsRel m m' → VecRel false u u'
    → PullRel (pull_of a.model m u) (pull_of a'.model m' u')
unfolding pull_of
pull-for-mirror {a} h k u = rw h.model (pull-mirror a.model.thrust_falloff k u.x)

aero-mirror : {a a' : Airframe} {s s' : Surfaces} {b b' : Body} {u u' : Vec3} (thrust thrust' density : Float) → thrust' ≡ thrust → AirframeRel a a'
    → SurfacesRel s s' → BodyRel b b' → VecRel false u u'
    → AeroRel (aero_of a thrust s b u density) (aero_of a' thrust' s' b' u' density)
unfolding aero_of
aero-mirror {a} {a'} {s} {s'} {b} {b'} {u} thrust thrust' density e h l g air =
    rw (e, wash-for-is thrust density h air.x, h.model)
    (wrench-mirror a.model (wash_for a thrust u.x density) density air g.rates (deflection-mirror a.model.max_deflection_rad l))

pub loads-mirror : {a a' : Airframe} {m m' : Motors} {s s' : Surfaces} {xs xs' : List Float} {b b' : Body} {wind wind' : Vec3} (density : Float)
    → AirframeRel a a' → MotorsRel m m' → SurfacesRel s s' → xs' ≡ xs → BodyRel b b'
    → VecRel false wind wind' → LoadedRel (loads_of a m s xs b wind density) (loads_of a' m' s' xs' b' wind' density)
unfolding loads_of loads_under
loads-mirror density h k l e g w =
    let air = air-mirror g w in
    let pull = pull-for-mirror h k air in
    let aero = aero-mirror _ _ density pull.thrust h l g air in
    loaded-mirror g.attitude (with-lift-mirror h e air (with-thrust-mirror h.model pull aero)) aero pull.thrust

-- a mirrored pair shares its height, and so its density
pub density-for-is : {f f' : Flight} → FlightRel f f' → density_for f' ≡ density_for f
unfolding density_for
density-for-is k = density-is (r-neg k.body.position.z)

-- ---- the step
stepped-mirror : {f f' : Flight} {l l' : Loaded} (m : FixedWingModel) (motors servos lift_running : List Float) (h : Float) → FlightRel f f'
    → LoadedRel l l' → TickedRel (stepped_of m f motors servos lift_running l h) (stepped_of m f' motors servos lift_running l' h)
unfolding stepped_of
stepped-mirror m motors servos lift_running h k l = record {
  report = record { answer = refl; alpha = l.alpha; beta = l.beta; thrust = l.thrust };
  flight = record { body = step-mirror (mass_of m) h k.body l.loads; motors = refl; servos = refl; scale = k.scale; lift = refl };
}

stepped_same : {f f' : Flight} {l l' : Loaded} (m m' : FixedWingModel) (motors motors' servos servos' xs xs' : List Float) (h h' : Float) → m' ≡ m
    → motors' ≡ motors → servos' ≡ servos → xs' ≡ xs → h' ≡ h → FlightRel f f' → LoadedRel l l'
    → TickedRel (stepped_of m f motors servos xs l h) (stepped_of m' f' motors' servos' xs' l' h')
stepped_same m m' motors motors' servos servos' xs xs' h h' i e s x p k l = rw (i, e, s, x, p) (stepped-mirror m motors servos xs h k l)

spun-mirror : {a a' : Airframe} {f f' : Flight} {t t' : Tick} → AirframeRel a a' → FlightRel f f' → TickRel t t' → MotorsRel (spun_of a f t) (spun_of a' f' t')
unfolding spun_of
spun-mirror {a} {t} h k w =
    rw (w.step, w.motors, lag-factor-is t.step_s h.motors)
    (spin-mirror t.motors (lag_factor a.motors t.step_s) (motors-mirror h k))

moved-mirror : {a a' : Airframe} {f f' : Flight} {t t' : Tick} → AirframeRel a a' → FlightRel f f' → TickRel t t'
    → SurfacesRel (moved_of a f t) (moved_of a' f' t')
unfolding moved_of
moved-mirror {a} {a'} {f} {f'} {t} {t'} h k w =
    rw (w.step, w.servos)
    (subst (λ (m : FixedWingModel). SurfacesRel (move_to (surfaces_for a f) t.servos (factor_of t.step_s a.model.servo_time_constant_s))
    (move_to (surfaces_for a' f') t.servos (factor_of t.step_s m.servo_time_constant_s))) (sym h.model)
    (move-mirror t.servos (factor_of t.step_s a.model.servo_time_constant_s) (surfaces-mirror h k)))

lifted-is : {a a' : Airframe} {f f' : Flight} {t t' : Tick} → AirframeRel a a' → FlightRel f f' → TickRel t t' → lifted_of a' f' t' ≡ lifted_of a f t
unfolding lifted_of lift_spun rotors_spun
lifted-is {a} {a'} {f} {f'} {t} {t'} h k w =
    rw (w.step, w.motors)
    (by-test (λ (xs xs' : List Float). xs' ≡ xs) a.lift_present a'.lift_present h.lift-present
    (λ p. ap (λ (z : Float). (spin_of (rotors_at a'.lift f'.lift_motors) t.motors z).running) (lag-factor-is t.step_s h.lift.motors)
    ∙ (spin-mirror t.motors (lag_factor a.lift.motors t.step_s) (rotors-mirror h.lift k.lift)).running)
    (λ p. k.lift))

pub next-mirror : {a a' : Airframe} {f f' : Flight} {t t' : Tick} → AirframeRel a a' → FlightRel f f' → TickRel t t'
    → TickedRel (next_of a f t) (next_of a' f' t')
unfolding next_with loads_in
next-mirror {a} {a'} {f} {f'} {t} {t'} h k w =
    let motors = spun-mirror h k w in
    let surfaces = moved-mirror h k w in
    let lifted = lifted-is h k w in
    stepped_same a.model a'.model _ _ _ _ _ _ t.step_s t'.step_s h.model motors.running surfaces.running lifted w.step k
    (rw (density-for-is k) (loads-mirror (density_for f) h motors surfaces lifted k.body w.wind))

-- ---- the tests
refused-mirror : {f f' : Flight} (x : Answer) → FlightRel f f' → TickedRel (refused_of x f) (refused_of x f')
unfolding refused_of
refused-mirror x h = record { report = record { answer = refl; alpha = r-same zero; beta = r-zero true false false (pos 0); thrust = r-same zero }; flight = h }

inside_is : {f f' : Flight} → FlightRel f f' → is_inside f' ≡ is_inside f
unfolding is_inside
inside_is h = ap (λ (n : ℕ). eqb n 0) (outside-is h)

unless-departed-mirror : {f f' : Flight} {n n' : TickResult} → FlightRel f f' → TickedRel n n' → TickedRel (unless_departed f n) (unless_departed f' n')
unfolding unless_departed
unless-departed-mirror {f} {f'} {n} {n'} h k =
    by-test TickedRel (is_inside n.flight) (is_inside n'.flight) (inside_is k.flight) (λ t. k) (λ t. refused-mirror (Err Departure) h)

wind-usable-is : {w w' : Vec3} → VecRel false w w' → wind_usable w' ≡ wind_usable w
unfolding wind_usable
wind-usable-is h = vec-inside-is wind_most h

pub accepted-mirror : {f f' : Flight} {t t' : Tick} {n n' : TickResult} → FlightRel f f' → TickRel t t' → TickedRel n n'
    → TickedRel (accepted_tick f t n) (accepted_tick f' t' n')
unfolding accepted_tick
accepted-mirror {f} {f'} {t} {t'} k w next =
    by-test TickedRel (is_inside f) (is_inside f') (inside_is k)
    (λ u. by-test TickedRel (inside step_least step_most t.step_s) (inside step_least step_most t'.step_s) (ap (inside step_least step_most) w.step)
    (λ v. by-test TickedRel (wind_usable t.wind_ned_mps) (wind_usable t'.wind_ned_mps) (wind-usable-is w.wind)
    (λ x. unless-departed-mirror k next) (λ x. refused-mirror (Err WindUnusable) k))
    (λ v. refused-mirror (Err StepOutside) k))
    (λ u. refused-mirror (Err StateOutside) k)

pub tick-mirror : {a a' : Airframe} {f f' : Flight} {t t' : Tick} → AirframeRel a a' → FlightRel f f' → TickRel t t'
    → TickedRel (tick_of a f t) (tick_of a' f' t')
unfolding tick_of tick_with
tick-mirror {a} {a'} h k w =
    rw (refused-place-is h) (by-test TickedRel (eqb (refused_place a) 0) (eqb (refused_place a) 0) refl (λ u. accepted-mirror k w (next-mirror h k w))
    (λ u. refused-mirror (Err (NumberOutOfRange (refused_place a))) k))

-- The program's verdict is the theorem's (run/specs/Mirrored.antt). Where the theorem's `Agree` holds of a tick in both flights,
-- `mirrored_tick` is true of it; where that is true, the numbers that it looks at are related as the theorem relates them; and so the
-- program finds no tick that differs, whatever it flies. Assumes nothing.
use Rattle.std.proofs.Common.{◌≡◌, ℕ, ◌<◌, Bool, true, false, List, [], ◌∷◌, sym, refl, ap, true≢false, eq-eqb, eqb-true}
use lib.Ieee.{Float}
use mathlib.Core.List.{foldl}
use Rattle.airframe.proofs.Mirror.{reflect-airframe}
use Rattle.airframe.specs.Reflection.{reflect_airframe}
use Rattle.airframe.specs.declared.Airframe.{Airframe}
use Rattle.answers.specs.Answers.{number_of}
use Rattle.body.specs.Reflection.{BodyRel, reflect_body}
use Rattle.body.specs.declared.Body.{Body}
use Rattle.flight.proofs.Mirror.{reflect-flight, reflect-tick}
use Rattle.flight.specs.Reflection.{FlightRel, reflect_flight, reflect_tick}
use Rattle.flight.specs.State.{body_of}
use Rattle.flight.specs.declared.Flight.{Flight}
use Rattle.flight.specs.declared.Tick.{Tick}
use Rattle.float.proofs.Mirror.{r-is}
use Rattle.mixers.specs.Slots.{at}
use Rattle.ordered.proofs.Ordered.{each-pass, pass-each}
use Rattle.ordered.specs.Ordered.{all_pass}
use Rattle.run.proofs.Mirror.{agree}
use Rattle.run.specs.Mirrored.{Agree}
use Rattle.run.specs.Run.{told_by}
use Rattle.vector.specs.Reflection.{QuatRel, VecRel, reflect_axis, reflect_quat, reflect_vec}
use Rattle.vector.specs.declared.Quaternion.{Quaternion}
use Rattle.vector.specs.declared.Vec3.{Vec3}
use Rattle.wing.proofs.Mirror.{tick-mirror}
use Rattle.wing.specs.Reflection.{TickedRel}
use Rattle.wing.specs.Tick.{tick_of}
use Rattle.wing.specs.declared.TickResult.{TickResult}
use Rattle.lines.proofs.Numbers.{OppositeFloat, SameFloat, is-opposite, is_same, opposite-holds, same-holds}
use Rattle.lines.specs.Compare.{both, mirrored_report, mirrored_tick, same_attitude, same_body, same_flight, same_slot, same_vec}
use Rattle.lines.specs.Tracks.{Shown, Tracks, shown_on, shown_over, tracks_after, tracks_at_start, tracks_on, unlike_of}

-- ---- two tests
both_hold : {a b : Bool} → a ≡ true → b ≡ true → both a b ≡ true
both_hold e d = rw (e, d)

hold-both : (a b : Bool) → both a b ≡ true → (a ≡ true) × (b ≡ true)
hold-both a true h = (h, refl)
hold-both a false h = absurd (true≢false (sym h))

-- ---- where the theorem's clauses hold, the program's tests do
vec-holds : {v w : Vec3} → VecRel false v w → same_vec (reflect_vec v) w ≡ true
unfolding same_vec reflect_vec
vec-holds h = both_hold (both_hold (same-holds h.x) (opposite-holds h.y)) (same-holds h.z)

axis-holds : {v w : Vec3} → VecRel true v w → same_vec (reflect_axis v) w ≡ true
unfolding same_vec reflect_axis
axis-holds h = both_hold (both_hold (opposite-holds h.x) (same-holds h.y)) (opposite-holds h.z)

attitude-holds : {p q : Quaternion} → QuatRel p q → same_attitude (reflect_quat p) q ≡ true
unfolding same_attitude reflect_quat
attitude-holds h = both_hold (both_hold (same-holds h.w) (opposite-holds h.i)) (both_hold (same-holds h.j) (opposite-holds h.k))

body-holds : {b c : Body} → BodyRel b c → same_body (reflect_body b) c ≡ true
unfolding same_body reflect_body
body-holds h = both_hold (both_hold (vec-holds h.position) (vec-holds h.velocity)) (both_hold (attitude-holds h.attitude) (axis-holds h.rates))

slots-hold : {xs ys : List Float} → ys ≡ xs → all_pass (same_slot xs ys) 8 ≡ true
unfolding same_slot
slots-hold {xs} {ys} e = each-pass (same_slot xs ys) 8 (λ k l. same-holds (r-is (ap (λ (zs : List Float). at zs k) e)))

flight-holds : {f g : Flight} → FlightRel f g → same_flight (reflect_flight f) g ≡ true
unfolding same_flight reflect_flight
flight-holds h =
    both_hold (body-holds h.body) (both_hold (both_hold (slots-hold h.motors) (slots-hold h.servos))
    (both_hold (slots-hold h.scale) (slots-hold h.lift)))

pub agree-mirrored : (k l : TickResult) → Agree (told_by k) (told_by l) → mirrored_tick k l ≡ true
unfolding mirrored_tick mirrored_report
agree-mirrored k l h =
    both_hold
    (both_hold (both_hold (eq-eqb _ _ (sym h.answer)) (same-holds h.alpha)) (both_hold (same-holds h.thrust) (opposite-holds h.beta)))
    (flight-holds h.state)

-- ---- and where the program's test is true, the numbers are related
pub record ComparedVec (v w : Vec3) : Type 0 where
  pub x : SameFloat v.x w.x
  pub y : OppositeFloat v.y w.y
  pub z : SameFloat v.z w.z

pub record ComparedAxis (v w : Vec3) : Type 0 where
  pub x : OppositeFloat v.x w.x
  pub y : SameFloat v.y w.y
  pub z : OppositeFloat v.z w.z

pub record ComparedAttitude (p q : Quaternion) : Type 0 where
  pub w : SameFloat p.w q.w
  pub i : OppositeFloat p.i q.i
  pub j : SameFloat p.j q.j
  pub k : OppositeFloat p.k q.k

abbrev pub ComparedSlots : List Float → List Float → Type 0
ComparedSlots xs ys = (k : ℕ) → k < 8 → SameFloat (at xs k) (at ys k)

pub record Compared (k l : TickResult) : Type 0 where
  pub answer : number_of l.report.answer ≡ number_of k.report.answer
  pub alpha : SameFloat k.report.alpha_rad l.report.alpha_rad
  pub thrust : SameFloat k.report.thrust_n l.report.thrust_n
  pub beta : OppositeFloat k.report.beta_rad l.report.beta_rad
  pub position : ComparedVec (body_of k.flight).position_ned_m (body_of l.flight).position_ned_m
  pub velocity : ComparedVec (body_of k.flight).velocity_ned_mps (body_of l.flight).velocity_ned_mps
  pub attitude : ComparedAttitude (body_of k.flight).attitude (body_of l.flight).attitude
  pub rates : ComparedAxis (body_of k.flight).angular_velocity_radps (body_of l.flight).angular_velocity_radps
  pub motors : ComparedSlots k.flight.motors l.flight.motors
  pub servos : ComparedSlots k.flight.servos l.flight.servos
  pub scale : ComparedSlots k.flight.thrust_scale l.flight.thrust_scale
  pub lift : ComparedSlots k.flight.lift_motors l.flight.lift_motors

vec-compared : {v w : Vec3} → same_vec (reflect_vec v) w ≡ true → ComparedVec v w
unfolding same_vec reflect_vec
vec-compared h = let t = hold-both _ _ h in let u = hold-both _ _ t.0 in record { x = is_same u.0; y = is-opposite u.1; z = is_same t.1 }

axis-compared : {v w : Vec3} → same_vec (reflect_axis v) w ≡ true → ComparedAxis v w
unfolding same_vec reflect_axis
axis-compared h = let t = hold-both _ _ h in let u = hold-both _ _ t.0 in record { x = is-opposite u.0; y = is_same u.1; z = is-opposite t.1 }

attitude-compared : {p q : Quaternion} → same_attitude (reflect_quat p) q ≡ true → ComparedAttitude p q
unfolding same_attitude reflect_quat
attitude-compared h =
    let t = hold-both _ _ h in let u = hold-both _ _ t.0 in let v = hold-both _ _ t.1 in
    record { w = is_same u.0; i = is-opposite u.1; j = is_same v.0; k = is-opposite v.1 }

slots-compared : (xs ys : List Float) → all_pass (same_slot xs ys) 8 ≡ true → ComparedSlots xs ys
unfolding same_slot
slots-compared xs ys h k l = is_same (pass-each (same_slot xs ys) 8 h k l)

pub mirrored-compared : (k l : TickResult) → mirrored_tick k l ≡ true → Compared k l
unfolding mirrored_tick mirrored_report same_flight same_body reflect_flight reflect_body
mirrored-compared k l h =
    let t = hold-both _ _ h in
    let r = hold-both _ _ t.0 in
    let r0 = hold-both _ _ r.0 in
    let r1 = hold-both _ _ r.1 in
    let f = hold-both _ _ t.1 in
    let b = hold-both _ _ f.0 in
    let b0 = hold-both _ _ b.0 in
    let b1 = hold-both _ _ b.1 in
    let s = hold-both _ _ f.1 in
    let s0 = hold-both _ _ s.0 in
    let s1 = hold-both _ _ s.1 in
    record {
      answer = sym (eqb-true _ _ r0.0);
      alpha = is_same r0.1;
      thrust = is_same r1.0;
      beta = is-opposite r1.1;
      position = vec-compared b0.0;
      velocity = vec-compared b0.1;
      attitude = attitude-compared b1.0;
      rates = axis-compared b1.1;
      motors = slots-compared _ _ s0.0;
      servos = slots-compared _ _ s0.1;
      scale = slots-compared _ _ s1.0;
      lift = slots-compared _ _ s1.1;
    }

-- ---- so no tick of the program's two flights differs
record Mirroring (p : Tracks) : Type 0 where
  states : FlightRel p.first p.second
  none : p.differs ≡ 0

mirroring-on : (a : Airframe) (p : Tracks) (t : Tick) → Mirroring p → Mirroring (tracks_on a p t)
unfolding tracks_on tracks_after unlike_of
mirroring-on a p t h =
    let k = tick_of a p.first t in
    let l = tick_of (reflect_airframe a) p.second (reflect_tick t) in
    let r : TickedRel k l = tick-mirror (reflect-airframe a) h.states (reflect-tick t) in
    record { states = r.flight; none = rw (h.none, agree-mirrored k l (agree r)) }

mirroring-all : (a : Airframe) (p : Shown) (ts : List Tick) → Mirroring p.tracks → Mirroring (foldl (shown_on a) p ts).tracks
mirroring-all a p [] h = h
mirroring-all a p (t ∷ ts) h = mirroring-all a (shown_on a p t) ts (unfold shown_on in mirroring-on a p.tracks t h)

pub none-differs : (a : Airframe) (f : Flight) (ts : List Tick) → (shown_over a (tracks_at_start f) ts).tracks.differs ≡ 0
unfolding tracks_at_start
none-differs a f ts = (mirroring-all a _ ts (record { states = reflect-flight f; none = refl })).none

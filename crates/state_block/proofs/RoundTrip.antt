-- Writing a state and reading it again gives it back, number for number (01, "Blocks"). Assumes nothing.
use Prim.Native.Nat.{◌+◌, ◌≤◌, ℕ}
use borrow.Author.Tests.{eq-eqb}
use lib.Dec.{T}
use lib.Ieee.{binary32, fits}
use lib.Ieee.Bits.{of_bits-fits}
use lib.ListN.{length}
use mathlib.Core.List.{List}
use mathlib.Core.Path.{◌∙◌, ◌≡◌}
use native.Mathlib.Omega.{arith}
use Rattle.block_parts.proofs.RoundTrip.{Kept, SlotsFit, VecFits, float-before, float_same, floats-fit, slots-before, slots_kept, slots_same}
use Rattle.block_parts.proofs.RoundTrip.{vec-before, vec-fits, vec_kept, vec-same}
use Rattle.block_parts.proofs.Writing.{length-put_float, length-put_floats, length-put_vec}
use Rattle.block_parts.specs.Parts.{float_at, put_float, put_floats, put_vec}
use Rattle.flight.specs.Envelope.{outside_of}
use Rattle.flight.specs.State.{body_of}
use Rattle.flight.specs.declared.Flight.{Flight}
use Rattle.vector.specs.declared.Quaternion.{Quaternion}
use Rattle.state_block.specs.Layout.{accepted_state, attitude_from, flight_from, flight_with, put_attitude, put_body, put_flight}
use Rattle.state_block.specs.Layout.{read_state_of, tested_state, written_state}

-- ---- the attitude

pub length-put_attitude : (s : List ℕ) (i : ℕ) (q : Quaternion) → length (put_attitude s i q) ≡ length s
unfolding put_attitude
length-put_attitude s i q = simp length-put_float

attitude-before : (s : List ℕ) (i : ℕ) (q : Quaternion) (j : ℕ) → j + 4 ≤ i → float_at (put_attitude s i q) j ≡ float_at s j
unfolding put_attitude
attitude-before s i q j l =
    float-before _ (i + 12) q.k j (omega arith) ∙ float-before _ (i + 8) q.j j (omega arith) ∙ float-before _ (i + 4) q.i j (omega arith)
    ∙ float-before s i q.w j l

-- four numbers that 32 bits hold
pub record AttitudeFits (q : Quaternion) : Type 0 where
  pub w_fits : T (fits binary32 q.w)
  pub i-fits : T (fits binary32 q.i)
  pub j-fits : T (fits binary32 q.j)
  pub k-fits : T (fits binary32 q.k)

attitude-same : (s : List ℕ) (i : ℕ) (q : Quaternion) → i + 16 ≤ length s → AttitudeFits q → attitude_from (put_attitude s i q) i ≡ q
unfolding attitude_from put_attitude
attitude-same s i q l h =
    let a = put_float s i q.w in
    let b = put_float a (i + 4) q.i in
    let d = put_float b (i + 8) q.j in
    let la : length a ≡ length s = length-put_float s i q.w in
    let lb : length b ≡ length a = length-put_float a (i + 4) q.i in
    let ld : length d ≡ length b = length-put_float b (i + 8) q.j in
    simp (
      float-before d (i + 12) q.k i (omega arith),
      float-before b (i + 8) q.j i (omega arith),
      float-before a (i + 4) q.i i (omega arith),
      float_same s i q.w (omega arith) h.w_fits,
      float-before d (i + 12) q.k (i + 4) (omega arith),
      float-before b (i + 8) q.j (i + 4) (omega arith),
      float_same a (i + 4) q.i (omega arith) h.i-fits,
      float-before d (i + 12) q.k (i + 8) (omega arith),
      float_same b (i + 8) q.j (omega arith) h.j-fits,
      float_same d (i + 12) q.k (omega arith) h.k-fits,
    )

attitude-kept : (s t : List ℕ) (n j : ℕ) → Kept s t n → j + 16 ≤ n → attitude_from t j ≡ attitude_from s j
unfolding attitude_from
attitude-kept s t n j h l = simp (h j (omega arith), h (j + 4) (omega arith), h (j + 8) (omega arith), h (j + 12) (omega arith))

-- ---- the whole state

-- a state of numbers that 32 bits hold, NaNs and infinities too, with 8 motors, 8 servos, 8 thrust scales and 8 lift rotors: what every
-- `Flight` of the code is
pub record FlightFits (f : Flight) : Type 0 where
  pub position-fits : VecFits (body_of f).position_ned_m
  pub velocity-fits : VecFits (body_of f).velocity_ned_mps
  pub attitude-fits : AttitudeFits (body_of f).attitude
  pub rates-fit : VecFits (body_of f).angular_velocity_radps
  pub motors-fit : SlotsFit f.motors
  pub servos-fit : SlotsFit f.servos
  pub scales-fit : SlotsFit f.thrust_scale
  pub lift-fits : SlotsFit f.lift_motors

module _ (s : List ℕ) (i : ℕ) (f : Flight) (l : i + 180 ≤ length s) (h : FlightFits f) where
  abbrev s1 : List ℕ
  s1 = put_vec s i (body_of f).position_ned_m

  abbrev s2 : List ℕ
  s2 = put_vec s1 (i + 12) (body_of f).velocity_ned_mps

  abbrev s3 : List ℕ
  s3 = put_attitude s2 (i + 24) (body_of f).attitude

  abbrev s4 : List ℕ
  s4 = put_vec s3 (i + 40) (body_of f).angular_velocity_radps

  abbrev s5 : List ℕ
  s5 = put_floats s4 (i + 52) f.motors 8

  abbrev s6 : List ℕ
  s6 = put_floats s5 (i + 84) f.servos 8

  abbrev s7 : List ℕ
  s7 = put_floats s6 (i + 116) f.thrust_scale 8

  abbrev s8 : List ℕ
  s8 = put_floats s7 (i + 148) f.lift_motors 8

  l1 : length s1 ≡ length s
  l1 = length-put_vec s i (body_of f).position_ned_m

  l2 : length s2 ≡ length s
  l2 = length-put_vec s1 (i + 12) (body_of f).velocity_ned_mps ∙ l1

  l3 : length s3 ≡ length s
  l3 = length-put_attitude s2 (i + 24) (body_of f).attitude ∙ l2

  l4 : length s4 ≡ length s
  l4 = length-put_vec s3 (i + 40) (body_of f).angular_velocity_radps ∙ l3

  l5 : length s5 ≡ length s
  l5 = length-put_floats s4 (i + 52) f.motors 8 ∙ l4

  l6 : length s6 ≡ length s
  l6 = length-put_floats s5 (i + 84) f.servos 8 ∙ l5

  l7 : length s7 ≡ length s
  l7 = length-put_floats s6 (i + 116) f.thrust_scale 8 ∙ l6

  -- what each later part leaves as it was
  k7 : Kept s7 s8 (i + 148)
  k7 j m = slots-before s7 (i + 148) f.lift_motors 8 j m

  k6 : Kept s6 s8 (i + 116)
  k6 j m = k7 j (omega arith) ∙ slots-before s6 (i + 116) f.thrust_scale 8 j m

  k5 : Kept s5 s8 (i + 84)
  k5 j m = k6 j (omega arith) ∙ slots-before s5 (i + 84) f.servos 8 j m

  k4 : Kept s4 s8 (i + 52)
  k4 j m = k5 j (omega arith) ∙ slots-before s4 (i + 52) f.motors 8 j m

  k3 : Kept s3 s8 (i + 40)
  k3 j m = k4 j (omega arith) ∙ vec-before s3 (i + 40) (body_of f).angular_velocity_radps j m

  k2 : Kept s2 s8 (i + 24)
  k2 j m = k3 j (omega arith) ∙ attitude-before s2 (i + 24) (body_of f).attitude j m

  k1 : Kept s1 s8 (i + 12)
  k1 j m = k2 j (omega arith) ∙ vec-before s1 (i + 12) (body_of f).velocity_ned_mps j m

  pub length-put_flight : length (put_flight s i f) ≡ length s
  unfolding put_flight put_body
  length-put_flight = length-put_floats s7 (i + 148) f.lift_motors 8 ∙ l7

  -- written, then read
  pub flight-same : flight_from (put_flight s i f) i ≡ f
  unfolding flight_from flight_with put_flight put_body
  flight-same =
      simp (
        vec_kept s1 s8 (i + 12) i k1 (omega arith),
        vec-same s i (body_of f).position_ned_m (omega arith) h.position-fits,
        vec_kept s2 s8 (i + 24) (i + 12) k2 (omega arith),
        vec-same s1 (i + 12) (body_of f).velocity_ned_mps (omega (arith, l1)) h.velocity-fits,
        attitude-kept s3 s8 (i + 40) (i + 24) k3 (omega arith),
        attitude-same s2 (i + 24) (body_of f).attitude (omega (arith, l2)) h.attitude-fits,
        vec_kept s4 s8 (i + 52) (i + 40) k4 (omega arith),
        vec-same s3 (i + 40) (body_of f).angular_velocity_radps (omega (arith, l3)) h.rates-fit,
        slots_kept s5 s8 (i + 84) (i + 52) k5 (omega arith),
        slots_same s4 (i + 52) f.motors (omega (arith, l4)) h.motors-fit,
        slots_kept s6 s8 (i + 116) (i + 84) k6 (omega arith),
        slots_same s5 (i + 84) f.servos (omega (arith, l5)) h.servos-fit,
        slots_kept s7 s8 (i + 148) (i + 116) k7 (omega arith),
        slots_same s6 (i + 116) f.thrust_scale (omega (arith, l6)) h.scales-fit,
        slots_same s7 (i + 148) f.lift_motors (omega (arith, l7)) h.lift-fits,
      )

-- a state within the envelope, written into 180 bytes and read again, is accepted and the same
pub written-then-read : (s : List ℕ) (f : Flight) → length s ≡ 180 → FlightFits f → outside_of f ≡ 0 → read_state_of (written_state s f) ≡ accepted_state f
unfolding written_state read_state_of tested_state
written-then-read s f l h o =
    let b : 0 + 180 ≤ length s = omega arith in
    simp (eq-eqb _ _ l, eq-eqb _ _ (length-put_flight s 0 f b h ∙ l), flight-same s 0 f b h, eq-eqb _ _ o)

-- what is read from bytes is such a state
pub flight-fits : (s : List ℕ) (i : ℕ) → FlightFits (flight_from s i)
unfolding flight_from flight_with attitude_from float_at
flight-fits s i = record {
  position-fits = vec-fits s i;
  velocity-fits = vec-fits s (i + 12);
  attitude-fits = record { w_fits = of_bits-fits binary32 _; i-fits = of_bits-fits binary32 _; j-fits = of_bits-fits binary32 _; k-fits = of_bits-fits binary32 _ };
  rates-fit = vec-fits s (i + 40);
  motors-fit = floats-fit s (i + 52);
  servos-fit = floats-fit s (i + 84);
  scales-fit = floats-fit s (i + 116);
  lift-fits = floats-fit s (i + 148);
}

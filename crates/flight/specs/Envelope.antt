-- The envelope (01, "Envelope"; 02, 2 and 5): position within ±1,000,000, velocity ±1,000, N in 0.9..1.1, rates ±100, motors 0..1,
-- servos -1..1, thrust scales 0..1, lift rotors 0..1, all slots. One ordered definition that names the first test that breaks; a
-- NaN is outside, -0 is 0. Definitions only.
use Rattle.std.specs.Prelude.{ℕ, eqb, Float, replicate, Bool, cond, List, [], ◌∷◌}
use Rattle.std.specs.Float.Ieee.{neg}
use Rattle.float.specs.Interval.{inside}
use Rattle.float.specs.Notation.{minus_one, zero, one, rounded}
use Rattle.ordered.specs.Ordered.{after, first_fail, first_of}
use Rattle.mixers.specs.Slots.{at}
use Rattle.vector.specs.Rotation.{quat, quat_norm}
use Rattle.vector.specs.Vector.{zero_vec}
use Rattle.vector.specs.declared.Quaternion.{Quaternion}
use Rattle.vector.specs.declared.Vec3.{Vec3}
use Rattle.flight.specs.State.{body_of, flight_of}
use Rattle.flight.specs.declared.Flight.{Flight}

abbrev pub zero_flight : Flight
zero_flight =
    flight_of
    (record { position_ned_m = zero_vec; velocity_ned_mps = zero_vec; attitude = quat zero zero zero zero; angular_velocity_radps = zero_vec })
    (replicate 8 zero)
    (replicate 8 zero)
    (replicate 8 zero)
    (replicate 8 zero)

-- ---- the limits: sizes of position, velocity and rates, and N's ends
abbrev pub max_position : Float
max_position = rounded 1000000 1

abbrev pub max_velocity : Float
max_velocity = rounded 1000 1

abbrev pub max_rate : Float
max_rate = rounded 100 1

abbrev pub min_norm : Float
min_norm = rounded 9 10

abbrev pub max_norm : Float
max_norm = rounded 11 10

-- a vector's components, each within ±limit
unfoldable pub vec_outside : Float → Vec3 → ℕ
vec_outside limit v =
    cond (inside (neg limit) limit v.x)
    (cond (inside (neg limit) limit v.y) (cond (inside (neg limit) limit v.z) 0 3) 2)
    1

-- the 8 slots' values, each within low..high
unfoldable pub slot_inside : Float → Float → List Float → ℕ → Bool
slot_inside low high xs k = inside low high (at xs k)

unfoldable pub slots_outside : Float → Float → List Float → ℕ
slots_outside low high xs = first_fail (slot_inside low high xs) 0 8

unfoldable pub attitude_outside : Quaternion → ℕ
attitude_outside q = cond (inside min_norm max_norm (quat_norm q)) 0 1

-- a line for each part, as they stand in a state, after as many tests as stand before it: 3 of position, 3 of velocity, the
-- attitude, 3 of rates, 8 motors, 8 servos, 8 thrust scales, 8 lift rotors
unfoldable pub outside_of : Flight → ℕ
outside_of f =
    first_of
    (vec_outside max_position (body_of f).position_ned_m
    ∷ after 3 (vec_outside max_velocity (body_of f).velocity_ned_mps)
    ∷ after 6 (attitude_outside (body_of f).attitude)
    ∷ after 7 (vec_outside max_rate (body_of f).angular_velocity_radps)
    ∷ after 10 (slots_outside zero one f.motors)
    ∷ after 18 (slots_outside minus_one one f.servos)
    ∷ after 26 (slots_outside zero one f.thrust_scale)
    ∷ after 34 (slots_outside zero one f.lift_motors)
    ∷ [])

-- an accepted state
unfoldable pub is_inside : Flight → Bool
is_inside f = eqb (outside_of f) 0

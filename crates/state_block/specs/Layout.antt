-- The state block (01, "Blocks"; 02, 2 and 5): which number stands where in the bytes, and what reading and writing a state block
-- gives. Definitions only.
use Rattle.std.specs.Prelude.{Err, ◌*◌, ◌+◌, ℕ, eqb, Float, length, replicate, cond, List}
use Rattle.answers.specs.declared.Refusal.{Refusal}
use Rattle.answers.specs.declared.Refusal.TheVariants.{StateOutside, WrongLength}
use Rattle.answers.specs.Answers.{done}
use Rattle.block_parts.specs.Parts.{float_at, floats_from, number_bytes, put_float, put_floats, put_vec, slots_bytes, vec_bytes, vec_from}
use Rattle.body.specs.declared.Body.{Body}
use Rattle.flight.specs.Envelope.{outside_of, zero_flight}
use Rattle.flight.specs.State.{body_of, flight_of}
use Rattle.flight.specs.declared.Flight.{Flight}
use Rattle.float.specs.Notation.{zero, one}
use Rattle.vector.specs.Rotation.{quat}
use Rattle.vector.specs.declared.Quaternion.{Quaternion}
use Rattle.state_block.specs.declared.StateRead.{StateRead}

-- ---- the table of offsets: at which byte of its block each part begins; the position begins it

-- an attitude has 4 numbers
abbrev pub attitude_bytes : ℕ
attitude_bytes = 4 * number_bytes

-- where the parts stand: the position first, the lift rotors' values last
abbrev pub velocity_at : ℕ
velocity_at = vec_bytes

abbrev pub attitude_at : ℕ
attitude_at = velocity_at + vec_bytes

abbrev pub rates_at : ℕ
rates_at = attitude_at + attitude_bytes

abbrev pub motors_at : ℕ
motors_at = rates_at + vec_bytes

abbrev pub servos_at : ℕ
servos_at = motors_at + slots_bytes

abbrev pub scales_at : ℕ
scales_at = servos_at + slots_bytes

abbrev pub lift_at : ℕ
lift_at = scales_at + slots_bytes

abbrev pub state_bytes : ℕ
state_bytes = lift_at + slots_bytes

-- ---- reading

-- the attitude whose numbers w, i, j, k begin at i
unfoldable pub attitude_from : List ℕ → ℕ → Quaternion
attitude_from s i =
    quat (float_at s i) (float_at s (i + number_bytes)) (float_at s (i + 2 * number_bytes)) (float_at s (i + 3 * number_bytes))

-- the state whose block begins at i, with the thrust scales and the lift rotors' values given
unfoldable pub flight_with : List Float → List Float → List ℕ → ℕ → Flight
flight_with scales lift s i =
    let body : Body = record {
      position_ned_m = vec_from s i;
      velocity_ned_mps = vec_from s (i + velocity_at);
      attitude = attitude_from s (i + attitude_at);
      angular_velocity_radps = vec_from s (i + rates_at);
    } in
    flight_of body (floats_from s (i + motors_at)) (floats_from s (i + servos_at)) scales lift

-- and with its own
unfoldable pub flight_from : List ℕ → ℕ → Flight
flight_from s i = flight_with (floats_from s (i + scales_at)) (floats_from s (i + lift_at)) s i

-- the scales of a block without any: all 1
abbrev pub unscaled : List Float
unscaled = replicate 8 one

-- and the lift rotors' values: all 0
abbrev pub unlifted : List Float
unlifted = replicate 8 zero

-- ---- reading a state block (01, "What the bench replies": "State: 1, 7", "A refused read returns .. state of zeros")

unfoldable pub refused_state : Refusal → StateRead
refused_state a = record { answer = Err a; flight = zero_flight }

unfoldable pub accepted_state : Flight → StateRead
accepted_state f = record { answer = done; flight = f }

-- a state within the envelope is read
unfoldable pub tested_state : Flight → StateRead
tested_state f = cond (eqb (outside_of f) 0) (accepted_state f) (refused_state StateOutside)

-- by its length, a line for each that is accepted: 180 bytes; 148, which end where the lift rotors' values begin (02, 5); and 116,
-- which end where the scales begin (02, 2)
unfoldable pub read_state_of : List ℕ → StateRead
read_state_of s =
    cond (eqb (length s) state_bytes) (tested_state (flight_from s 0))
    (cond (eqb (length s) lift_at) (tested_state (flight_with (floats_from s scales_at) unlifted s 0))
    (cond (eqb (length s) scales_at) (tested_state (flight_with unscaled unlifted s 0))
    (refused_state WrongLength)))

-- a block of all its bytes, and of no fewer (02, 5: what program fly takes)
unfoldable pub read_full_of : List ℕ → StateRead
read_full_of s = cond (eqb (length s) state_bytes) (read_state_of s) (refused_state WrongLength)

-- ---- writing: one number after the other, in the block's order

-- the attitude
unfoldable pub put_attitude : List ℕ → ℕ → Quaternion → List ℕ
put_attitude s i q =
    put_float
    (put_float (put_float (put_float s i q.w) (i + number_bytes) q.i) (i + 2 * number_bytes) q.j)
    (i + 3 * number_bytes)
    q.k

-- the body's numbers, then the running values, the scales, and the lift rotors' values
unfoldable pub put_body : List ℕ → ℕ → Body → List ℕ
put_body s i b =
    put_vec
    (put_attitude
    (put_vec (put_vec s i b.position_ned_m) (i + velocity_at) b.velocity_ned_mps)
    (i + attitude_at)
    b.attitude)
    (i + rates_at)
    b.angular_velocity_radps

unfoldable pub put_flight : List ℕ → ℕ → Flight → List ℕ
put_flight s i f =
    put_floats
    (put_floats
    (put_floats (put_floats (put_body s i (body_of f)) (i + motors_at) f.motors 8) (i + servos_at) f.servos 8)
    (i + scales_at)
    f.thrust_scale
    8)
    (i + lift_at)
    f.lift_motors
    8

-- into just as many bytes as the block has; else they stay as found
unfoldable pub written_state : List ℕ → Flight → List ℕ
written_state s f = cond (eqb (length s) state_bytes) (put_flight s 0 f) s

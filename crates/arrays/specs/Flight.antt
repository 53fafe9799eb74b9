-- A state and a tick as arrays of numbers: those of their blocks, in the blocks' order (01, "Blocks"). Number k of a block stands at
-- its byte 4k, so the places are those of the blocks' one table. Definitions only.
use Rattle.std.specs.Prelude.{◌+◌, ◌/◌, ℕ, Float, List, [], ◌∷◌}
use Rattle.block_parts.specs.Parts.{number_bytes}
use Rattle.body.specs.declared.Body.{Body}
use Rattle.flight.specs.State.{body_of, flight_of}
use Rattle.flight.specs.declared.Flight.{Flight}
use Rattle.flight.specs.declared.Tick.{Tick}
use Rattle.mixers.specs.Slots.{at, slots}
use Rattle.state_block.specs.Layout.{attitude_at, lift_at, motors_at, rates_at, scales_at, servos_at, state_bytes, velocity_at}
use Rattle.trace.specs.Tick.{motor_commands_at, servo_commands_at, tick_bytes, wind_at}
use Rattle.vector.specs.Rotation.{quat}
use Rattle.vector.specs.Vector.{vec}
use Rattle.vector.specs.declared.Quaternion.{Quaternion}
use Rattle.vector.specs.declared.Vec3.{Vec3}

-- how many numbers a state and a tick have
abbrev pub state_numbers_count : ℕ
state_numbers_count = state_bytes / number_bytes

abbrev pub tick_numbers_count : ℕ
tick_numbers_count = tick_bytes / number_bytes

unfoldable pub vec_in : List Float → ℕ → Vec3
vec_in xs i = vec (at xs i) (at xs (i + 1)) (at xs (i + 2))

unfoldable pub quat_in : List Float → ℕ → Quaternion
quat_in xs i = quat (at xs i) (at xs (i + 1)) (at xs (i + 2)) (at xs (i + 3))

unfoldable pub slots_in : List Float → ℕ → List Float
slots_in xs i = slots (λ (k : ℕ). at xs (i + k))

-- the state of an array
unfoldable pub flight_in : List Float → Flight
flight_in xs =
    let body : Body = record {
      position_ned_m = vec_in xs 0;
      velocity_ned_mps = vec_in xs (velocity_at / number_bytes);
      attitude = quat_in xs (attitude_at / number_bytes);
      angular_velocity_radps = vec_in xs (rates_at / number_bytes);
    } in
    flight_of body (slots_in xs (motors_at / number_bytes)) (slots_in xs (servos_at / number_bytes)) (slots_in xs (scales_at / number_bytes))
    (slots_in xs (lift_at / number_bytes))

-- the tick of an array
unfoldable pub tick_in : List Float → Tick
tick_in xs = record {
  step_s = at xs 0;
  wind_ned_mps = vec_in xs (wind_at / number_bytes);
  motors = slots_in xs (motor_commands_at / number_bytes);
  servos = slots_in xs (servo_commands_at / number_bytes);
}

-- the array of a state: its numbers, in order
abbrev vec_then : Vec3 → List Float → List Float
vec_then v more = v.x ∷ v.y ∷ v.z ∷ more

abbrev quat_then : Quaternion → List Float → List Float
quat_then q more = q.w ∷ q.i ∷ q.j ∷ q.k ∷ more

abbrev slots_then : List Float → List Float → List Float
slots_then s more = at s 0 ∷ at s 1 ∷ at s 2 ∷ at s 3 ∷ at s 4 ∷ at s 5 ∷ at s 6 ∷ at s 7 ∷ more

abbrev body_then : Body → List Float → List Float
body_then b more =
    vec_then b.position_ned_m
    (vec_then b.velocity_ned_mps (quat_then b.attitude (vec_then b.angular_velocity_radps more)))

unfoldable pub flight_numbers : Flight → List Float
flight_numbers f =
    body_then (body_of f)
    (slots_then f.motors (slots_then f.servos (slots_then f.thrust_scale (slots_then f.lift_motors []))))

-- the array of a tick: step, wind, motor commands, servo commands
unfoldable pub tick_numbers : Tick → List Float
tick_numbers t = t.step_s ∷ vec_then t.wind_ned_mps (slots_then t.motors (slots_then t.servos []))

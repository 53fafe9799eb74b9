-- The tick block (01, "Blocks"): which number stands where in the bytes, and what reading and writing a tick block gives. Definitions
-- only.
use Rattle.std.specs.Prelude.{Err, ◌+◌, ℕ, eqb, length, replicate, cond, List}
use Rattle.answers.specs.declared.Refusal.TheVariants.{WrongLength}
use Rattle.answers.specs.Answers.{done}
use Rattle.block_parts.specs.Parts.{float_at, floats_from, number_bytes, put_float, put_floats, put_vec, slots_bytes, vec_bytes, vec_from}
use Rattle.flight.specs.declared.Tick.{Tick}
use Rattle.float.specs.Notation.{zero}
use Rattle.vector.specs.Vector.{zero_vec}
use Rattle.trace.specs.declared.TickRead.{TickRead}

-- ---- the table of offsets

-- where the parts stand, the step being the first
abbrev pub wind_at : ℕ
wind_at = number_bytes

abbrev pub motor_commands_at : ℕ
motor_commands_at = wind_at + vec_bytes

abbrev pub servo_commands_at : ℕ
servo_commands_at = motor_commands_at + slots_bytes

abbrev pub tick_bytes : ℕ
tick_bytes = servo_commands_at + slots_bytes

-- ---- reading

-- the tick whose block begins at i
unfoldable pub tick_from : List ℕ → ℕ → Tick
tick_from s i = record {
  step_s = float_at s i;
  wind_ned_mps = vec_from s (i + wind_at);
  motors = floats_from s (i + motor_commands_at);
  servos = floats_from s (i + servo_commands_at);
}

-- a tick of zeros
unfoldable pub zero_tick : Tick
zero_tick = record { step_s = zero; wind_ned_mps = zero_vec; motors = replicate 8 zero; servos = replicate 8 zero }

-- a tick block by itself: 80 bytes, else 1 and a tick of zeros; no number is tested
unfoldable pub read_tick_of : List ℕ → TickRead
read_tick_of s =
    cond (eqb (length s) tick_bytes) (record { answer = done; tick = tick_from s 0 })
    (record { answer = Err WrongLength; tick = zero_tick })

-- ---- writing: one number after the other, in the block's order

-- the tick's numbers from i on
unfoldable pub put_tick : List ℕ → ℕ → Tick → List ℕ
put_tick s i t =
    put_floats
    (put_floats (put_vec (put_float s i t.step_s) (i + wind_at) t.wind_ned_mps) (i + motor_commands_at) t.motors 8)
    (i + servo_commands_at)
    t.servos
    8

-- into just as many bytes as the block has; else they stay as found
unfoldable pub written_tick : List ℕ → Tick → List ℕ
written_tick s t = cond (eqb (length s) tick_bytes) (put_tick s 0 t) s

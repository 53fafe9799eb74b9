-- The reflection of a tick and of a trace on their bytes (01, "Reflection negates"): wind east has its sign bit flipped. Definitions
-- only.
use Rattle.std.specs.Prelude.{◌%◌, ◌*◌, ◌+◌, suc, zero, ℕ, set, List}
use Rattle.block_parts.specs.Parts.{number_bytes}
use Rattle.float.specs.Bytes.{byte_at}
use Rattle.trace.specs.Tick.{tick_bytes, wind_at}
use Rattle.trace.specs.Trace.{tick_count}

-- the byte at i with its top bit flipped
unfoldable pub flip_sign : List ℕ → ℕ → List ℕ
flip_sign s i = set s i ((byte_at s i + 128) % 256)

-- the wind's second number, east, stands behind its first, and its sign is the top bit of its first byte
unfoldable pub reflect_tick_bytes : List ℕ → ℕ → List ℕ
reflect_tick_bytes s i = flip_sign s (i + wind_at + number_bytes)

-- the first n ticks of a trace reflected
unfoldable pub reflect_to : List ℕ → ℕ → List ℕ
reflect_to s zero = s
reflect_to s (suc n) = reflect_tick_bytes (reflect_to s n) (tick_bytes * n)

-- all of them
unfoldable pub reflect_trace : List ℕ → List ℕ
reflect_trace s = reflect_to s (tick_count s)

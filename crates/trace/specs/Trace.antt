-- A trace: the bytes of one tick block after the other. Definitions only.
use Rattle.std.specs.Prelude.{◌%◌, ◌*◌, ◌/◌, suc, zero, ℕ, eqb, length, Bool, List, [], ◌∷◌}
use Rattle.flight.specs.declared.Tick.{Tick}
use Rattle.trace.specs.Tick.{tick_bytes, tick_from}

-- whether the bytes are whole ticks
abbrev pub is_whole : List ℕ → Bool
is_whole s = eqb (length s % tick_bytes) 0

-- how many whole ticks there are; bytes behind the last are of none
abbrev pub tick_count : List ℕ → ℕ
tick_count s = length s / tick_bytes

-- tick i, the first being 0
abbrev pub tick_at : List ℕ → ℕ → Tick
tick_at s i = tick_from s (tick_bytes * i)

-- n ticks, the first of them being tick i
unfoldable pub ticks_from : List ℕ → ℕ → ℕ → List Tick
ticks_from s i zero = []
ticks_from s i (suc n) = tick_at s i ∷ ticks_from s (suc i) n

-- all of them
unfoldable pub ticks_of : List ℕ → List Tick
ticks_of s = ticks_from s 0 (tick_count s)

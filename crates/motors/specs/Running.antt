-- The running values of a group's motors in a run that began with those of `start` (demand 3): every used motor's lies within 0
-- and 1, and an unused motor's is as at the start. Definitions only.
use Rattle.std.specs.Prelude.{◌<◌, ℕ, Float, Bool, false, true, List, ◌≡◌}
use Rattle.float.specs.Interval.{Within}
use Rattle.float.specs.Notation.{zero, one}
use Rattle.mixers.specs.Slots.{at, flag_at}

pub record MotorsInRange (used : List Bool) (start running : List Float) : Type 0 where
  pub driven : (k : ℕ) → k < 8 → flag_at used k ≡ true → Within zero one (at running k)
  pub unused : (k : ℕ) → k < 8 → flag_at used k ≡ false → at running k ≡ at start k

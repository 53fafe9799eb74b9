-- The wind's limit in numbers holds: each end is computed. Assumes nothing.
use lib.Ieee.{Float, inf, le, nan, neg, of_bits, round}
use mathlib.Core.Bool.{Bool, cond, false, true}
use mathlib.Core.Path.{◌≡◌, refl}
use Rattle.float.specs.Interval.{inside}
use Rattle.vector.specs.Vector.{vec, vec_inside}
use Rattle.wing.specs.Tick.{wind_most, wind_usable}
use Rattle.cases.specs.Wind.{Unusable, WindLimit, just_beyond, two_hundred}

neither : (b : Bool) → cond b false false ≡ false
neither true = refl
neither false = refl

unusable : (x : Float) → inside (neg wind_most) wind_most x ≡ false → Unusable x
unfolding wind_usable vec_inside
unusable x h =
    record {
      north = λ e d. rw h refl;
      east = λ n d. rw h (neither (inside (neg wind_most) wind_most n));
      down = λ n e. rw h (last (inside (neg wind_most) wind_most n) (inside (neg wind_most) wind_most e));
    }
  where
    last : (a b : Bool) → cond a (cond b false false) false ≡ false
    last true b = neither b
    last false b = refl

within : (s : Bool) → inside (neg wind_most) wind_most (two_hundred s) ≡ true
unfolding inside le neg of_bits round
within true = refl
within false = refl

past : (s : Bool) → inside (neg wind_most) wind_most (just_beyond s) ≡ false
unfolding inside le neg of_bits round
past true = refl
past false = refl

endless : (s : Bool) → inside (neg wind_most) wind_most (inf s) ≡ false
unfolding inside le neg round
endless true = refl
endless false = refl

absent : inside (neg wind_most) wind_most nan ≡ false
unfolding inside le neg round
absent = refl

passes : (n e d : Bool) → wind_usable (vec (two_hundred n) (two_hundred e) (two_hundred d)) ≡ true
unfolding wind_usable vec_inside
passes n e d = rw (within n, within e, within d)

pub wind-limit : WindLimit
wind-limit = record { passes = passes; beyond = λ s. unusable _ (past s); infinite = λ s. unusable _ (endless s); missing = unusable _ absent }

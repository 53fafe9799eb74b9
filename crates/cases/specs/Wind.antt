-- The wind's limit in numbers (02, 1): 200 m/s either way passes, in all three components at once; the next float beyond it, an
-- infinity or a NaN is refused in any one component, whatever the other two are. Definitions only.
use Rattle.std.specs.Prelude.{Float, Bool, cond, false, true, ◌≡◌}
use Rattle.std.specs.Float.{inf, nan}
use Rattle.float.specs.Notation.{hex}
use Rattle.vector.specs.Vector.{vec}
use Rattle.wing.specs.Tick.{wind_usable}

-- 200 m/s and the next float, to either side
abbrev pub two_hundred : Bool → Float
two_hundred minus = hex (cond minus 0xC3480000 0x43480000)

abbrev pub just_beyond : Bool → Float
just_beyond minus = hex (cond minus 0xC3480001 0x43480001)

pub record Unusable (x : Float) : Type 0 where
  pub north : (e d : Float) → wind_usable (vec x e d) ≡ false
  pub east : (n d : Float) → wind_usable (vec n x d) ≡ false
  pub down : (n e : Float) → wind_usable (vec n e x) ≡ false

pub record WindLimit : Type 0 where
  pub passes : (n e d : Bool) → wind_usable (vec (two_hundred n) (two_hundred e) (two_hundred d)) ≡ true
  pub beyond : (s : Bool) → Unusable (just_beyond s)
  pub infinite : (s : Bool) → Unusable (inf s)
  pub missing : Unusable nan

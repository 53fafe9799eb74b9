-- The density of a tick's air lies between the table's ends: a state that passes 7 has a height. And a tick by its density: one
-- that starts at 0 m, of either sign, is the tick there was when the density was 1.225 everywhere (02, 6); the next one starts
-- where the first has
-- left the state. Assumes nothing.
use lib.Dec.{T}
use lib.Ieee.{Float, neg, round}
use lib.Ieee.Scale.{finite}
use mathlib.Core.Bool.{Bool, false, true}
use mathlib.Core.Path.{◌∙◌, ◌≡◌, ap}
use Rattle.air.proofs.Range.{density-at-0, density-in}
use Rattle.air.specs.Density.{density_at, density_of, last_row}
use Rattle.airframe.specs.declared.Airframe.{Airframe}
use Rattle.flight.proofs.Range.{position-within}
use Rattle.flight.specs.Envelope.{max_position, outside_of}
use Rattle.flight.specs.declared.Flight.{Flight}
use Rattle.flight.specs.declared.Tick.{Tick}
use Rattle.float.proofs.Interval.{within-finite}
use Rattle.float.proofs.Order.{finite_number}
use Rattle.float.proofs.Rounding.{neg-finite}
use Rattle.float.specs.Interval.{Within}
use Rattle.float.specs.Notation.{zero, rounded}
use Rattle.float.specs.Same.{flip}
use Rattle.wing.specs.Tick.{density_for, lifted_of, loads_in, tick_of, tick_with}

-- ---- of a state inside the envelope
pub density-for-in : (f : Flight) → outside_of f ≡ 0 → Within (density_of last_row) (density_of 0) (density_for f)
unfolding density_for
density-for-in f e =
    let z = f.down_m in
    let limit = max_position in
    let down : T (finite z) = within-finite (neg limit) limit z (unfold neg round in tt) (unfold round in tt) (position-within f e).z in
    density-in (neg z) (finite_number (neg z) (neg-finite z down))

-- ---- of a state at 0 m, of either sign
pub density-from-0 : (f : Flight) (s : Bool) → f.down_m ≡ flip s zero → density_for f ≡ rounded 1225 1000
unfolding density_for neg
density-from-0 f s e = ap (λ (z : Float). density_at (neg z)) e ∙ height-0 s
  where
    height-0 : (s : Bool) → density_at (neg (flip s zero)) ≡ rounded 1225 1000
    height-0 false = density-at-0 true
    height-0 true = density-at-0 false

-- ---- by its density
pub tick-at-0 : (a : Airframe) (f : Flight) (t : Tick) (s : Bool) → f.down_m ≡ flip s zero
    → tick_of a f t ≡ tick_with a f t (lifted_of a f t) (loads_in a f t (rounded 1225 1000))
unfolding tick_of
tick-at-0 a f t s e = ap (λ (density : Float). tick_with a f t (lifted_of a f t) (loads_in a f t density)) (density-from-0 f s e)

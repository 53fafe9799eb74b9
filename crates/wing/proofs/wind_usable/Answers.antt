-- `wing::wind_usable` meets its contract. Assumes nothing.
use Rattle.wing.specs.Tick.{wind_usable}
use lib.Ieee.{of_bits, round}
use Rattle.wing.proofs.wind_usable.Goals as goal

pub returns : goal.returns
unfolding wind_usable of_bits round
returns c = c.is_inside.ensures

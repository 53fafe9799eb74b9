-- `aero::pressure_area_n` meets its contract. Assumes nothing.
use lib.Ieee.{div, of_bits, round}
use mathlib.Core.Path.{refl}
use Rattle.aero.specs.Wrench.{pressure_area}
use Rattle.aero.proofs.pressure_area_n.Goals as goal

pub returns : goal.returns
unfolding pressure_area of_bits div round
returns c = refl

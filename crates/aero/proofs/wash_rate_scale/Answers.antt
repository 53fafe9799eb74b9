-- `aero::wash_rate_scale` meets its contract. Assumes nothing.
use lib.Ieee.{div, of_bits, round}
use mathlib.Core.Path.{refl}
use Rattle.aero.specs.Wrench.{wash_rate_scale}
use Rattle.aero.proofs.wash_rate_scale.Goals as goal

pub returns : goal.returns
unfolding wash_rate_scale of_bits div round
returns c = refl

-- `aero::flat_plate_pressure_drag` meets its contract. Assumes nothing.
use lib.Ieee.{of_bits, round}
use mathlib.Core.Path.{refl}
use Rattle.aero.specs.Coefficients.{flat_plate_pressure_drag}
use Rattle.aero.proofs.flat_plate_pressure_drag.Goals as goal

pub returns : goal.returns
unfolding flat_plate_pressure_drag of_bits round
returns c = refl

-- `aero::flat_plate_lift` meets its contract. Assumes nothing.
use lib.Ieee.{of_bits, round}
use Rattle.aero.specs.Coefficients.{flat_plate_lift}
use Rattle.aero.proofs.flat_plate_lift.Goals as goal

pub returns : goal.returns
unfolding flat_plate_lift of_bits round
returns c = simp c.sign.ensures

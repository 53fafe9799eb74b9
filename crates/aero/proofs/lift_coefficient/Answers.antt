-- `aero::lift_coefficient` meets its contract. Assumes nothing.
use lib.Ieee.{of_bits, round}
use Rattle.aero.specs.Coefficients.{flat_plate_lift, lift_coefficient, linear_lift}
use Rattle.aero.proofs.lift_coefficient.Goals as goal

pub returns : goal.returns
unfolding lift_coefficient flat_plate_lift linear_lift of_bits round
returns c = simp (c.flat_plate_lift.ensures, c.linear_lift.ensures)

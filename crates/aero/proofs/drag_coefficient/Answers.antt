-- `aero::drag_coefficient` meets its contract. Assumes nothing.
use lib.Ieee.{of_bits, round}
use Rattle.book.specs.Equations as book
use Rattle.aero.specs.Coefficients.{drag_coefficient, linear_lift}
use Rattle.aero.proofs.drag_coefficient.Goals as goal

pub returns : goal.returns
unfolding drag_coefficient linear_lift book.drag of_bits round
returns c = simp (c.aspect_ratio-aspect_ratio.ensures, c.linear_lift-lift.ensures)

-- `aero::flow_drag_n` meets its contract. Assumes nothing.
use lib.Ieee.{of_bits, round}
use Rattle.aero.specs.Wrench.{flow_drag}
use Rattle.aero.proofs.flow_drag_n.Goals as goal

pub returns : goal.returns
unfolding flow_drag of_bits round
returns c = simp (c.flat_plate_drag.ensures, c.drag_coefficient-attached.ensures)

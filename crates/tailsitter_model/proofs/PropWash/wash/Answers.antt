-- `tailsitter_model::PropWash::wash` meets its contract. Assumes nothing.
use lib.Ieee.{of_bits}
use Rattle.tailsitter_model.specs.Slipstream.{flow_mps, wash_by_pressure, wash_of}
use Rattle.tailsitter_model.proofs.PropWash.wash.Goals as goal

pub returns : goal.returns
unfolding wash_of wash_by_pressure flow_mps of_bits
returns c =
    simp (
      c.at_least_zero-pushing_pa.ensures,
      c.sqrtf-flow_mps.ensures,
      c.at_least_zero.ensures,
      c.added_pa-added_pa.ensures,
    )

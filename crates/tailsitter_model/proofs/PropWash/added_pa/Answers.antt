-- `tailsitter_model::PropWash::added_pa` meets its contract. Assumes nothing.
use lib.Ieee.{of_bits}
use Rattle.tailsitter_model.specs.Slipstream.{added_pa, disc_pa}
use Rattle.tailsitter_model.proofs.PropWash.added_pa.Goals as goal

pub returns-then-axial_mps : goal.returns-then-axial_mps
unfolding added_pa disc_pa of_bits
returns-then-axial_mps c = simp (c.sqrtf-jet_mps.ensures, c.if-axial_mps.true)

pub returns : goal.returns
unfolding added_pa disc_pa of_bits
returns c = simp c.if-axial_mps.false

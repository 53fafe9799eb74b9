-- `lent_rows::Mix::surfaces` meets its contract. Assumes nothing.
use lib.Ieee.{of_bits}
use Rattle.lent_rows.specs.Mixing.{surfaces_in}
use Rattle.lent_rows.proofs.Mix.surfaces.Goals as goal

pub returns : goal.returns
unfolding surfaces_in of_bits
returns c = simp c.weighed-weights.ensures

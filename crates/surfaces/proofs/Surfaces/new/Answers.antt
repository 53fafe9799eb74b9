-- `surfaces::Surfaces::new` meets its contract. Assumes nothing.
use lib.Ieee.{of_bits}
use Rattle.surfaces.specs.Surface.{surfaces_of}
use Rattle.surfaces.proofs.Surfaces.new.Goals as goal

pub returns : goal.returns
unfolding surfaces_of of_bits
returns c = simp (c.weighed-weights.ensures, c.factors_of.ensures)

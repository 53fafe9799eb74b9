-- `wing::loaded_by` meets its contract. Assumes nothing.
use Rattle.wing.specs.Loads.{loaded_by}
use Rattle.wing.proofs.loaded_by.Goals as goal

pub returns : goal.returns
unfolding loaded_by
returns c = simp (c.zeros-damping_nm.ensures, c.transform_vector-force_ned_n.ensures)

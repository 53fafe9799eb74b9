-- `arrays::group_in` meets its contract. Assumes nothing.
use Rattle.arrays.specs.Airframe.{group_in}
use Rattle.arrays.proofs.group_in.Goals as goal

pub returns : goal.returns
unfolding group_in
returns c = simp (c.vecs_in-torque_per_thrust_m.ensures, c.flags_in-used.ensures)

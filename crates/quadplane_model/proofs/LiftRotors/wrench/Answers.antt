-- `quadplane_model::LiftRotors::wrench` meets its contract. Assumes nothing.
use lib.Ieee.{of_bits}
use Rattle.quadplane_model.specs.Lift.{lift_by, lift_force, lift_wrench}
use Rattle.quadplane_model.proofs.LiftRotors.wrench.Goals as goal

pub returns : goal.returns
unfolding lift_wrench lift_by lift_force of_bits
returns c =
    let t = c in let s = t.before.before.before.before in
    simp (
      t.sub-force_n.ensures,
      t.new.ensures,
      t.mul-drag.ensures,
      s.new-along_discs.ensures,
      s.wrench-pull.ensures,
      s.at.ensures,
    )

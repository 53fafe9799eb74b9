-- `wing::with_thrust` meets its contract. Assumes nothing.
use lib.Ieee.{of_bits}
use Rattle.wing.specs.Loads.{with_thrust}
use Rattle.wing.proofs.with_thrust.Goals as goal

pub returns : goal.returns
unfolding with_thrust of_bits
returns c =
    let s = c in simp (
      c.add-torque_nm.ensures,
      c.add.ensures,
      s.add-force_n.ensures,
      s.new.ensures,
      s.new-thrust_line_nm.ensures,
    )

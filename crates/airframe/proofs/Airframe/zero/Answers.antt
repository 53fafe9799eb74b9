-- `airframe::Airframe::zero` meets its contract. Assumes nothing.
use lib.Ieee.{of_bits}
use Rattle.airframe.specs.FromNumbers.{zero_airframe}
use Rattle.airframe.proofs.Airframe.zero.Goals as goal

pub returns : goal.returns
unfolding zero_airframe of_bits
returns c =
    let z = c in
    let r = z.before in
    let m = r.before.before in
    simp (
      c.from_numbers.ensures,
      z.zeros-weights.ensures,
      r.empty-rotors.ensures,
      r.lift_layout_of.ensures,
      m.empty-motors.ensures,
      m.motor_layout_of.ensures,
    )

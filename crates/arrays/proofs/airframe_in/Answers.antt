-- `arrays::airframe_in` meets its contract. Assumes nothing.
use Rattle.arrays.specs.Airframe.{airframe_in, airframe_with}
use Rattle.arrays.proofs.airframe_in.Goals as goal

pub returns : goal.returns
unfolding airframe_in airframe_with
returns c =
    let r = c in
    let v = r.before.before in
    let m = v.before.before in
    let l = m.before in
    let w = l.before.before in
    let k = w.before.before in
    simp (
      c.from_numbers.ensures,
      r.group_in-rotors.ensures,
      r.lift_layout_of-lift_layout.ensures,
      v.vecs_in-weights.ensures,
      v.group_in-motors.ensures,
      m.motor_layout_of-layout.ensures,
      l.is_set-lift_present.ensures,
      w.is_set-wash_present.ensures,
      k.kind_of-kind.ensures,
      k.numbers_in-numbers.ensures,
    )

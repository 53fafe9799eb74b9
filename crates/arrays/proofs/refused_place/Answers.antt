-- `arrays::refused_place` meets its contract. Assumes nothing.
use mathlib.Core.Path.{◌∙◌, ◌≡◌, ap, sym}
use Rattle.float.specs.Lists.{list_from, list_of}
use Rattle.airframe.proofs.Parts.{last-or}
use Rattle.ordered.specs.Ordered.{unless_zero}
use Rattle.arrays.proofs.Numbers.{array-refused, tests}
use Rattle.arrays.specs.Airframe.{number_at, numbers_in}
use Rattle.arrays.proofs.refused_place.Goals as goal

pub returns : goal.returns
unfolding numbers_in number_at list_of list_from
returns c =
    let r = c in
    let p = r.before in
    let w = p.before.before in
    let t = w.before in
    let s = t.before in
    let f = s.before.before in
    let k = f.before.before in
    let xs = k.args.xs.now in
    let e : c.first_refused.result ≡ unless_zero (tests xs (numbers_in xs)) =
    simp (
      last-or,
      c.first_refused.ensures,
      r.lift_torques_outside-lift_torque.ensures,
      p.is_set-lift_present.ensures,
      w.vecs_in-weights.ensures,
      t.vecs_in-torques.ensures,
      s.is_set-wash_present.ensures,
      f.falloff_of-falloff.ensures,
      k.kind_of.ensures,
      k.numbers_in-numbers.ensures,
    ) in
    e ∙ ap unless_zero (sym (array-refused xs))

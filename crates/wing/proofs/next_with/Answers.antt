-- `wing::next_with` meets its contract. Assumes nothing.
use lib.Ieee.{of_bits, round}
use Rattle.wing.proofs.Lift.{held-factor}
use Rattle.airframe.specs.Promises.{lag_constants_of}
use Rattle.motors.specs.Motor.{lag_factor}
use Rattle.wing.specs.Promises.{lag_factors_from}
use Rattle.wing.specs.Tick.{loads_in, moved_of, next_with, spun_of}
use Rattle.wing.proofs.next_with.Goals as goal

pub returns : goal.returns
unfolding next_with loads_in spun_of moved_of lag_factor lag_factors_from lag_constants_of of_bits round
returns c =
    let l = c in
    let s = l.before.before.before.before.before.before in
    let x = s.before.before.before.before in
    simp (
      c.stepped.ensures,
      l.loads-loaded.ensures,
      l.density_for.ensures,
      l.body.ensures,
      l.lift_spun-lift_running.ensures,
      l.move_to-surfaces.ensures,
      l.surfaces_of.ensures,
      s.spin-motors.ensures,
      s.motors_of.ensures,
      x.requires,
      held-factor x.args.a x.args.f x.args.t,
    )

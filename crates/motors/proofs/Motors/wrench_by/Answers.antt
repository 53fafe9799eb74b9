-- `motors::Motors::wrench_by` meets its contract. Assumes nothing.
use lib.Ieee.{of_bits}
use mathlib.Core.Path.{◌∙◌, ◌≡◌, ap, refl}
use native.Mathlib.Nat.{le_antisymm}
use Rattle.mixers.proofs.Slots.{sum_more, vec-sum-more}
use Rattle.mixers.specs.Slots.{sum_to, vec_at, vec_sum_to}
use Rattle.vector.specs.Vector.{scale_of}
use Rattle.motors.specs.Motor.{slot_thrust, slot_torque, wrench_by}
use Rattle.motors.proofs.Motors.wrench_by.Goals as goal

pub loop-i-init : goal.loop-i-init
unfolding sum_to vec_sum_to of_bits
loop-i-init g c = (refl, c.zeros-torque_nm.ensures)

pub loop-i-preserved : goal.loop-i-preserved
unfolding slot_thrust slot_torque
loop-i-preserved g c =
    let s = c in
    let a = s.args in
    let i = s.loop-i.i in
    let left = g.F.Falls.left a.falls a.self.group.layout.max_thrust_n in
    let one-n = c.motor_thrust_n-one_n in (
      sum_more (slot_thrust a.self left) i s.loop-i.thrust_n one-n.result s.loop-i.invariant.0 one-n.ensures,
      vec-sum-more (slot_torque a.self left) i s.loop-i.torque_nm c.mul.result c.add-torque_nm.result s.loop-i.invariant.1
          (c.mul.ensures ∙ ap (scale_of (vec_at a.self.group.torque_per_thrust_m i)) {y = slot_thrust a.self left i}
          one-n.ensures) c.add-torque_nm.ensures,
    )

pub returns : goal.returns
unfolding wrench_by
returns g c =
    let s = c in
    let e : s.loop-i.i ≡ 8 = le_antisymm s.loop-i.auto.i-end c.loop-i-test.false in
    rw (s.loop-i.invariant.0, s.loop-i.invariant.1, e)

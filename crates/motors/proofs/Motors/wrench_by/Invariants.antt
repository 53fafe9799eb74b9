-- `motors::Motors::wrench_by` meets its contract. Assumes nothing.
use mathlib.Core.Path.{◌≡◌}
use Rattle.mixers.specs.Slots.{sum_to, vec_sum_to}
use Rattle.motors.specs.Motor.{slot_thrust, slot_torque}
use Rattle.motors.specs.declared.Motors.{Motors}
use Rattle.motors.proofs.Motors.wrench_by.Given as goal

abbrev pub invariant-loop-i : goal.invariant-loop-i
invariant-loop-i g l = let m : Motors = record { group = l.group; running = l.running; thrust_scale = l.thrust_scale } in
    let left = g.F.Falls.left l.falls l.group.layout.max_thrust_n in
    (l.thrust_n ≡ sum_to (slot_thrust m left) l.i) × (l.torque_nm ≡ vec_sum_to (slot_torque m left) l.i)

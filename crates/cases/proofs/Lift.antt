-- Every number of the table of lift rotors has its bits: computed. Assumes nothing.
use lib.Dec.{T}
use lib.Ieee.{add, eq, lt, mul, neg, round, size, sub, to_bits}
use Rattle.float.specs.Same.{num}
use Rattle.mixers.specs.Rows.{live_of, put_to}
use Rattle.mixers.specs.Slots.{sum_to, vec_sum_to}
use Rattle.motors.specs.Motor.{group_of, lift_group_of, put_motor_at, put_lift_at, put_lift_row, put_motor, put_motor_row, slot_thrust}
use Rattle.motors.specs.Motor.{slot_torque, thrust_fraction, thrust_of, torque_of, empty_group, wrench_by, wrench_without_falloff}
use Rattle.quadplane_model.specs.Lift.{lift_by, lift_force, lift_wrench, rotors_at}
use Rattle.vector.specs.Vector.{add_of, scale_of, sub_of}
use Rattle.cases.specs.Lift.{layout, lifts, rotors, rows, running, wrench}
use Rattle.cases.specs.Table.{all_hold, holds}

pub lifts-hold : T (all_hold lifts)
unfolding all_hold holds lifts wrench rotors rows layout running num to_bits lift_wrench lift_by lift_force rotors_at wrench_without_falloff
    wrench_by slot_thrust slot_torque thrust_of thrust_fraction lift_group_of group_of put_to put_motor_row put_lift_row put_motor_at put_lift_at
    put_motor torque_of empty_group live_of sum_to vec_sum_to add_of sub_of scale_of add sub mul neg eq lt round size
lifts-hold = tt

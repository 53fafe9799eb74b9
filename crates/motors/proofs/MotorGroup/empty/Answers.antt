-- `motors::MotorGroup::empty` meets its contract. Assumes nothing.
use lib.Ieee.{of_bits}
use Rattle.motors.specs.Motor.{empty_group}
use Rattle.motors.proofs.MotorGroup.empty.Goals as goal

pub returns : goal.returns
unfolding empty_group of_bits
returns c = simp c.zeros-torque_per_thrust_m.ensures

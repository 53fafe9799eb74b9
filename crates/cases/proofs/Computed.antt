-- Every case of the table holds: computed. Assumes nothing.
use lib.Dec.{T}
use lib.Ieee.{add, div, eq, le, lt, mul, ne, neg, of_bits, of_int, round, sub, to_bits, to_signed}
use Rattle.aero.specs.Coefficients.{hold, stall_blend}
use Rattle.book.specs.Equations as book
use Rattle.fixed_wing.specs.Falloff.{falloff_share, linear_share, pitch_speed_share}
use Rattle.float.specs.Notation.{at_least_zero, clamp, abs}
use Rattle.float.specs.Same.{num}
use Rattle.lag.specs.Lag.{approach_of, approach_saturated, saturated}
use Rattle.libm.specs.Atan.{angle_of, atan2_of, atan_near, atan_poly, beyond, off_origin, sided}
use Rattle.libm.specs.Exp.{core, exp_of, exp_series, horner, near_down, near_up, poly, rest, binary_exponent}
use Rattle.libm.specs.Sqrt.{digits, isqrt, root_units, sqrt_of}
use Rattle.mixers.specs.Slots.{vec_sum_to}
use Rattle.mixers.specs.Rows.{live_of, put_to}
use Rattle.surfaces.specs.Surface.{factors_of, inverse_of, inverse_or_zero, put_servo_at, put_servo_row, put_servo, square_at, squares_of, surfaces_of, weighed, weight_at}
use Rattle.tailsitter_model.specs.Slipstream.{added_pa, disc_pa}
use Rattle.vector.specs.Vector.{add_of, component_mul}
use Rattle.cases.specs.Table.{all_hold, blunt, disc, holds, one_servo, table}

pub table-holds : T (all_hold table)
unfolding all_hold holds table blunt disc one_servo num to_bits approach_of approach_saturated saturated clamp falloff_share
    pitch_speed_share linear_share at_least_zero stall_blend book.blend hold exp_of core poly exp_series horner
    rest binary_exponent near_up near_down atan2_of off_origin sided beyond angle_of atan_near atan_poly abs surfaces_of weighed factors_of
    put_to live_of put_servo_row put_servo_at put_servo weight_at component_mul inverse_of inverse_or_zero squares_of square_at vec_sum_to add_of
    sqrt_of root_units isqrt digits added_pa disc_pa add sub mul div neg lt le eq ne round of_bits of_int to_signed
table-holds = tt

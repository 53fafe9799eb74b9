-- Every share of the table has its bits: computed. Assumes nothing.
use lib.Dec.{T}
use lib.Ieee.{add, div, eq, le, lt, mul, ne, neg, of_bits, of_int, round, size, sub, to_bits, to_signed}
use Rattle.fixed_wing.specs.Falloff.{falloff_share, pitch_speed_share}
use Rattle.float.specs.Interval.{inside}
use Rattle.float.specs.Notation.{at_least_zero}
use Rattle.float.specs.Same.{num}
use Rattle.libm.specs.Exp.{core, exp_of, exp_series, horner, near_down, near_up, poly, rest, binary_exponent}
use Rattle.libm.specs.Log.{exponent_of, ln_near, ln_of, ln_of_parts, log_series, mantissa_of, shift, ratio}
use Rattle.libm.specs.Pow.{at_most_one, pow_of}
use Rattle.libm.specs.Sqrt.{sqrt_of}
use Rattle.motors.specs.Motor.{thrust_fraction}
use Rattle.cases.specs.Shares.{shares}
use Rattle.cases.specs.Table.{all_hold, holds}

pub shares-hold : T (all_hold shares)
unfolding all_hold holds shares num to_bits thrust_fraction falloff_share pitch_speed_share at_least_zero pow_of at_most_one inside exp_of core
    poly exp_series horner rest binary_exponent near_up near_down ln_of ln_of_parts ln_near log_series ratio mantissa_of exponent_of shift
    sqrt_of add sub mul div neg lt le eq ne round of_bits of_int to_signed size
shares-hold = tt

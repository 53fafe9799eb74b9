-- What the code's promises name besides the definitions: the lag factors of a step, which the code keeps from tick to tick.
-- Nothing here needs believing: the ticks' promises are by the definitions of Tick.antt alone.
use Rattle.std.specs.Prelude.{Float, cond, ◌≡◌}
use Rattle.std.specs.Float.{binary32}
use Rattle.std.specs.Float.Ieee.{of_bits, to_bits}
use Rattle.airframe.specs.Acceptance.{refused_place}
use Rattle.airframe.specs.Promises.{lag_constants_of}
use Rattle.airframe.specs.declared.Airframe.{Airframe}
use Rattle.airframe.specs.declared.LagConstants.{LagConstants}
use Rattle.answers.specs.declared.Refusal.{Refusal}
use Rattle.answers.specs.declared.Refusal.TheVariants.{NumberOutOfRange}
use Rattle.float.specs.Notation.{zero}
use Rattle.lag.specs.Lag.{factor_of}
use Rattle.wing.specs.declared.LagFactors.{LagFactors}

-- the lift rotors' lag factor, 0 without lift numbers
unfoldable pub lift_factor : LagConstants → Float → Float
lift_factor k h = cond k.lift_present (factor_of h k.lift_s) zero

-- begin(h): the lag factors of a step, with its bits
unfoldable pub lag_factors_from : LagConstants → Float → LagFactors
lag_factors_from k h = record {
  step_bits = to_bits binary32 h;
  motor = factor_of h k.motor_s;
  servo = factor_of h k.servo_s;
  lift = lift_factor k h;
}

abbrev pub begin_of : Airframe → Float → LagFactors
begin_of a h = lag_factors_from (lag_constants_of a) h

-- factors that are those of the step with their bits
pub record FactorsMatchStep (a : Airframe) (held : LagFactors) : Type 0 where
  pub motor : held.motor ≡ (begin_of a (of_bits binary32 held.step_bits)).motor
  pub servo : held.servo ≡ (begin_of a (of_bits binary32 held.step_bits)).servo
  pub lift : held.lift ≡ (begin_of a (of_bits binary32 held.step_bits)).lift

-- a refusal for the lowest place of an airframe that is out of range
pub record RefusedBy (a : Airframe) (refusal : Refusal) : Type 0 where
  pub is : refusal ≡ NumberOutOfRange (refused_place a)
  pub there : refused_place a ≡ 0 → ⊥

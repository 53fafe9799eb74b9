-- Numbers and fields, each from the other: an airframe made of numbers has them, and an airframe is made again of its own. Assumes
-- nothing.
use Prim.Native.Nat.{ℕ}
use lib.Dec.{eqb}
use lib.Ieee.{Float, nan}
use lib.ListN.{length}
use mathlib.Core.Bool.{Bool, cond, false, true}
use mathlib.Core.List.{List}
use mathlib.Core.Path.{◌≡◌, refl}
use Rattle.fixed_wing.specs.declared.ThrustFalloff.TheVariants.{Linear, PitchSpeed}
use Rattle.float.proofs.Lists.{list_of-again}
use Rattle.float.specs.Lists.{list_from, list_of}
use Rattle.motors.specs.declared.MotorGroup.{MotorGroup}
use Rattle.vector.specs.declared.Vec3.{Vec3}
use Rattle.airframe.specs.FromNumbers.{airframe_of, coefficients_of, falloff_of, lift_constant, lift_layout_of, model_of, motor_constant, motor_layout_of, wash_from}
use Rattle.airframe.specs.Numbers.{base_numbers, coefficient_numbers, falloff_number, lift_numbers, numbers_count, numbers_of, wash_numbers}
use Rattle.airframe.specs.declared.Airframe.{Airframe}

-- a falloff of either kind has its number
falloff-number : (kind : ℕ) (x : Float) → falloff_number (falloff_of kind x) ≡ x
unfolding falloff_of
falloff-number kind x = go (eqb kind 0)
  where
    go : (t : Bool) → falloff_number (cond t (Linear x) (PitchSpeed x)) ≡ x
    go true = refl
    go false = refl

-- a group that was made with the numbers
pub record MadeWith (xs : List Float) (motors rotors : MotorGroup) : Type 0 where
  pub layout : motors.layout ≡ motor_layout_of xs
  pub constant : motors.time_constant_s ≡ motor_constant xs
  pub lift-layout : rotors.layout ≡ lift_layout_of xs
  pub lift-constant : rotors.time_constant_s ≡ lift_constant xs

-- the numbers of an airframe that was made of them
pub numbers-again : (xs : List Float) (kind : ℕ) (wash lift : Bool) (motors rotors : MotorGroup) (weights : List Vec3)
    → length xs ≡ numbers_count
    → MadeWith xs motors rotors
    → numbers_of (airframe_of xs kind wash lift motors weights rotors) ≡ xs
unfolding airframe_of numbers_of base_numbers coefficient_numbers wash_numbers lift_numbers model_of coefficients_of wash_from motor_layout_of lift_layout_of list_of list_from
numbers-again xs kind wash lift motors rotors weights n made =
    simp (made.layout, made.constant, made.lift-layout, made.lift-constant, falloff-number) (list_of-again nan xs numbers_count n)

-- an airframe of its own numbers, its falloff being of the kind
pub airframe-again : (a : Airframe) (kind : ℕ)
    → falloff_of kind (falloff_number a.model.thrust_falloff) ≡ a.model.thrust_falloff
    → airframe_of (numbers_of a) kind a.wash_present a.lift_present a.motors a.weights a.lift.motors ≡ a
unfolding airframe_of numbers_of base_numbers coefficient_numbers wash_numbers lift_numbers model_of coefficients_of wash_from
airframe-again a kind e = simp e

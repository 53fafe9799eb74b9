-- The lent list and the array form agree: the first rows of an array, lent as a list and walked once, fill the motors and the
-- servos that the array form fills. An array of the array form has 16 rows, and `live_of` is at most that. Assumes nothing.
use Prim.Native.Nat.{ℕ, suc, zero, ◌≤◌}
use lib.Dec.{ltb, ltb→lt, T as Holds}
use lib.Ieee.{Float}
use lib.ListN.{get_or, length, take}
use mathlib.Core.Bool.{Bool, cond, false, true}
use mathlib.Core.List.{List, [], ◌∷◌}
use mathlib.Core.Path.{◌∙◌, ◌≡◌, ap, refl, subst, sym}
use native.Mathlib.Nat.{le_of_suc-le-suc, le_refl, not-suc-le-zero}
use native.Mathlib.Omega.{arith}
use Rattle.mixers.specs.Rows.{live_of, no_row, put_to}
use Rattle.mixers.specs.declared.MixRow.{MixRow}
use Rattle.mixers.specs.declared.Rows.{Rows}
use Rattle.motors.specs.Motor.{group_of, lift_group_of, put_lift_row, put_motor_row, empty_group}
use Rattle.motors.specs.declared.MotorLayout.{MotorLayout}
use Rattle.surfaces.specs.Surface.{factors_of, no_factors, put_servo_row, surfaces_of}
use Rattle.lent_rows.specs.Mixing.{mix_from, mix_of, put_row, start_of, surfaces_in}
use Rattle.lent_rows.specs.declared.Mix.{Mix}

-- the first row of a list may be put before the others
put_first : {X : Type 0} (put : X → MixRow → X) (x : X) (row : MixRow) (rows : List MixRow) (n : ℕ)
    → put_to put x (row ∷ rows) (suc n) ≡ put_to put (put x row) rows n
unfolding put_to
put_first put x row rows zero = refl
put_first put x row rows (suc n) = ap (λ z. put z (get_or rows n no_row)) (put_first put x row rows n)

-- so the first n rows as a list are the first n by number
pub list-as-array : (m : Mix) (rows : List MixRow) (n : ℕ) → n ≤ length rows → mix_from m (take n rows) ≡ put_to put_row m rows n
unfolding mix_from put_to
list-as-array m rows zero l = refl
list-as-array m [] (suc n) l = absurd (not-suc-le-zero l)
list-as-array m (row ∷ rows) (suc n) l = list-as-array (put_row m row) rows n (le_of_suc-le-suc l) ∙ sym (put_first put_row m row rows n)

-- a mix is filled part by part: each part sees the rows alone
module _ (l : MotorLayout) (tau : Float) (l' : MotorLayout) (tau' : Float) where
  abbrev parts : List MixRow → ℕ → Mix
  parts rows n =
      record {
        motors = put_to put_motor_row (empty_group l tau) rows n;
        lift = put_to put_lift_row (empty_group l' tau') rows n;
        factors = put_to put_servo_row no_factors rows n;
      }

  by_parts : (rows : List MixRow) (n : ℕ) → put_to put_row (start_of l tau l' tau') rows n ≡ parts rows n
  unfolding put_to start_of put_row
  by_parts rows zero = refl
  by_parts rows (suc n) = ap (λ (m : Mix). put_row m (get_or rows n no_row)) (by_parts rows n)

live_at : (rows : Rows) (t : Bool) → ltb rows.count 16 ≡ t → cond t rows.count 16 ≤ 16
live_at rows true e = omega (arith, ltb→lt rows.count 16 (subst Holds (sym e) tt))
live_at rows false e = le_refl 16

live-most : (rows : Rows) → live_of rows ≤ 16
unfolding live_of
live-most rows = live_at rows (ltb rows.count 16) refl

-- what the lent list fills is what the array form fills
module _ (rows : Rows) (l : MotorLayout) (tau : Float) (l' : MotorLayout) (tau' : Float) (long : length rows.rows ≡ 16) where
  pub lent-parts : mix_of rows l tau l' tau' ≡ parts l tau l' tau' rows.rows (live_of rows)
  unfolding mix_of
  lent-parts =
      list-as-array (start_of l tau l' tau') rows.rows (live_of rows) (omega (arith, live-most rows, long))
      ∙ by_parts l tau l' tau' rows.rows (live_of rows)

  -- the motors
  pub lent-motors : (mix_of rows l tau l' tau').motors ≡ group_of rows l tau
  unfolding group_of
  lent-motors = ap (λ (m : Mix). m.motors) lent-parts

  -- the lift rotors
  pub lent-lift : (mix_of rows l tau l' tau').lift ≡ lift_group_of rows l' tau'
  unfolding lift_group_of
  lent-lift = ap (λ (m : Mix). m.lift) lent-parts

  -- and the servos
  pub lent-surfaces : surfaces_in (mix_of rows l tau l' tau') ≡ surfaces_of rows
  unfolding surfaces_in surfaces_of factors_of
  lent-surfaces = ap surfaces_in lent-parts

-- `aero::pitch_coefficient` meets its contract. Assumes nothing.
use lib.Ieee.{Float, le, of_bits}
use mathlib.Core.Bool.{cond, false, true}
use mathlib.Core.Path.{◌≡◌}
use Rattle.float.specs.Notation.{◌⊕◌, ◌⊖◌, ◌⊗◌, zero}
use Rattle.book.specs.Equations as book
use Rattle.aero.specs.Coefficients.{attached_pitch, pitch_coefficient}
use Rattle.aero.proofs.pitch_coefficient.Goals as goal

-- the choice of the definition, with its parts as variables
first-is : (share on off : Float) → le share zero ≡ true → on ≡ cond (le share zero) on off
first-is share on off e = rw e

second_is : (share on pitch base : Float) (plate plate' : Float) → le share zero ≡ false → plate' ≡ plate
    → on ⊕ share ⊗ (base ⊕ plate' ⊖ on) ≡ cond (le share zero) pitch (on ⊕ share ⊗ (base ⊕ plate ⊖ on))
second_is share on pitch base plate plate' e f = rw (e, f)

pub returns-then-plate_share : goal.returns-then-plate_share
unfolding pitch_coefficient attached_pitch book.pitch of_bits
returns-then-plate_share c = first-is _ _ _ c.if-plate_share.true

pub returns : goal.returns
unfolding pitch_coefficient attached_pitch book.pitch of_bits
returns c = second_is _ _ _ _ _ _ c.if-plate_share.false c.flat_plate_pitch.ensures

-- `aero::flat_plate_pitch` meets its contract. Assumes nothing.
use lib.Ieee.{of_bits, round}
use Rattle.aero.specs.Coefficients.{flat_plate_pitch, plate_normal}
use Rattle.aero.proofs.flat_plate_pitch.Goals as goal

pub returns : goal.returns
unfolding flat_plate_pitch plate_normal of_bits round
returns c =
    simp (
      c.abs.ensures,
      c.static_margin_chords-center_of_gravity.ensures,
      c.flat_plate_pressure_drag.ensures,
      c.flat_plate_lift.ensures,
    )

-- The wash (01, module 5), all zeros where there is none. The density is an argument. Definitions only.
use Rattle.std.specs.Prelude.{Float, cond}
use Rattle.std.specs.Float.{binary32}
use Rattle.std.specs.Float.Ieee.{lt, neg}
use Rattle.float.specs.Notation.{◌⊖◌, ◌⊗◌, ◌⊘◌, at_least_zero, zero, two}
use Rattle.libm.specs.Sqrt.{sqrt_of}
use Rattle.tailsitter_model.specs.declared.PropWash.{PropWash}
use Rattle.tailsitter_model.specs.declared.Wash.{Wash}

-- nose first T/A; tail first, at a speed V, with the jet's v = √(2T/ρA) and the sink loss k: T/A - k·ρ·v·V
unfoldable pub disc_pa : PropWash → Float → Float
disc_pa w thrust = thrust ⊘ w.disc_area_m2

unfoldable pub added_pa : PropWash → Float → Float → Float → Float
added_pa w thrust axial density =
    cond (lt axial zero)
    (disc_pa w thrust ⊖ w.sink_loss ⊗ density ⊗ sqrt_of binary32 (two ⊗ disc_pa w thrust ⊘ density) ⊗ neg axial)
    (disc_pa w thrust)

-- in damping and pitch moments a pressure below 0 counts as 0
unfoldable pub flow_mps : Float → Float → Float
flow_mps added density = sqrt_of binary32 (two ⊗ at_least_zero added ⊘ density)

unfoldable pub wash_by_pressure : PropWash → Float → Float → Wash
wash_by_pressure w added density = record {
  pressure_pa = w.surface_fraction ⊗ added;
  roll_pressure_pa = w.roll_fraction ⊗ added;
  pitch_moment_pa = w.pitch_moment ⊗ at_least_zero (w.surface_fraction ⊗ added);
  stall_pitch_moment_pa = w.stall_pitch_moment ⊗ at_least_zero (w.surface_fraction ⊗ added);
  damping_mps = w.damping_fraction ⊗ flow_mps added density;
}

unfoldable pub wash_of : PropWash → Float → Float → Float → Wash
wash_of w thrust axial density = wash_by_pressure w (added_pa w thrust axial density) density

abbrev pub no_wash : Wash
no_wash = record {
  pressure_pa = zero;
  roll_pressure_pa = zero;
  pitch_moment_pa = zero;
  stall_pitch_moment_pa = zero;
  damping_mps = zero;
}

-- `airframe::numbers::model_of` meets its contract. Assumes nothing.
use Rattle.airframe.specs.FromNumbers.{model_of}
use Rattle.airframe.proofs.numbers.model_of.Goals as goal

pub returns : goal.returns
unfolding model_of
returns c = simp (c.falloff_of-thrust_falloff.ensures, c.new-max_deflection_rad.ensures, c.new-inertia_kgm2.ensures, c.coefficients_of-aero.ensures)

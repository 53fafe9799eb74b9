-- `airframe::limits_for` meets its contract: the code's table is the definition's, computed. Assumes nothing.
use lib.Ieee.{neg, of_bits, round}
use mathlib.Core.Path.{ap, sym}
use Rattle.airframe.specs.Acceptance.{limits_for, limits_table}
use Rattle.airframe.proofs.limits_for.Goals as goal

pub returns-in-Linear : goal.returns-in-Linear
unfolding limits_for limits_table of_bits round neg
returns-in-Linear c = sym (ap limits_for c.in-Linear.is)

pub returns-in-PitchSpeed : goal.returns-in-PitchSpeed
unfolding limits_for limits_table of_bits round neg
returns-in-PitchSpeed c = sym (ap limits_for c.in-PitchSpeed.is)

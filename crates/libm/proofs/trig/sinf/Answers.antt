-- `libm::trig::sinf` meets its contract: within size 4 by the quadrant and the rest, and a NaN beyond. Assumes nothing.
use lib.Ieee.{div, of_bits}
use mathlib.Core.Path.{◌∙◌, sym}
use Rattle.libm.proofs.Quarters.{sin_beyond, sin_held}
use Rattle.libm.proofs.trig.sinf.Goals as goal

pub returns-in-Some : goal.returns-in-Some
returns-in-Some c = c.sin_at.ensures ∙ sin_held c.args.x _ (sym c.quadrant_and_rest.ensures ∙ c.in-Some.is)

pub returns-in-None : goal.returns-in-None
unfolding div of_bits
returns-in-None c = sym (sin_beyond c.args.x (sym c.quadrant_and_rest.ensures ∙ c.in-None.is))

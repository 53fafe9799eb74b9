-- `libm::trig::quadrant_and_rest` meets its contract. Assumes nothing.
use lib.Ieee.{neg, of_bits, round}
use mathlib.Core.Path.{◌∙◌, sym}
use Rattle.libm.specs.Promises.{quadrant_and_rest}
use Rattle.libm.proofs.trig.quadrant_and_rest.Goals as goal

pub returns-then-inside : goal.returns-then-inside
unfolding quadrant_and_rest neg of_bits round
returns-then-inside c =
    simp (sym c.inside.ensures ∙ c.if-inside.true, c.rest_of.ensures, c.quadrant_after.ensures, c.quarters-q.ensures)

pub returns-else-inside : goal.returns-else-inside
unfolding quadrant_and_rest neg of_bits round
returns-else-inside c = simp (sym c.inside.ensures ∙ c.if-inside.false)

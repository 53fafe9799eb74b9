-- `airframe::segment_outside` meets its contract. Assumes nothing.
use Rattle.airframe.specs.Acceptance.{segment_outside}
use mathlib.Core.Path.{refl}
use Rattle.ordered.proofs.Ordered.{after-option, zero-none}
use Rattle.airframe.proofs.segment_outside.Goals as goal

pub returns-then-s : goal.returns-then-s
unfolding segment_outside
returns-then-s c = simp (c.after.ensures, c.first_outside.ensures.value, after-option, c.if-s.true)

pub returns : goal.returns
unfolding segment_outside
returns c = simp (c.if-s.false, zero-none 0 refl)

-- `airframe::row_factors_outside` meets its contract. Assumes nothing.
use Rattle.airframe.specs.Acceptance.{row_factors_outside}
use Rattle.ordered.specs.Ordered.{unless_zero}
use Rattle.airframe.proofs.row_factors_outside.Goals as goal

pub returns-then-rows_fit : goal.returns-then-rows_fit
unfolding row_factors_outside unless_zero
returns-then-rows_fit c = simp c.if-rows_fit.true

pub returns-else-rows_fit : goal.returns-else-rows_fit
unfolding row_factors_outside unless_zero
returns-else-rows_fit c = simp c.if-rows_fit.false

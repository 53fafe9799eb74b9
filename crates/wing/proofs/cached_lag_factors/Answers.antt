-- `wing::cached_lag_factors` meets its contract. Assumes nothing.
use Rattle.wing.proofs.Steps.{begin-of-its-step, begin-held}
use Rattle.wing.specs.Promises.{FactorsMatchStep}
use lib.Dec.{T}
use mathlib.Core.Path.{◌∙◌, subst, sym}
use Rattle.wing.proofs.cached_lag_factors.Goals as goal

pub returns-then-to_bits-held-clause-value : goal.returns-then-to_bits-held-clause-value
returns-then-to_bits-held-clause-value c = begin-held _ _ _ (subst T (sym c.well_formed.1.1.0.1) tt) (sym c.to_bits.ensures ∙ c.if-to_bits-held.true)
    c.requires

pub returns-then-to_bits-held-clause-matches_step : goal.returns-then-to_bits-held-clause-matches_step
returns-then-to_bits-held-clause-matches_step c = c.requires

pub returns-clause-value : goal.returns-clause-value
returns-clause-value c = c.begin.ensures

pub returns-clause-matches_step : goal.returns-clause-matches_step
returns-clause-matches_step c = subst (FactorsMatchStep _) (sym c.begin.ensures)
    (begin-of-its-step _ _ (subst T (sym c.well_formed.1.1.0.1) tt))

-- `mixers::Rows::live` meets its contract. Assumes nothing.
use native.Mathlib.Omega.{arith}
use borrow.Author.Tests.{lt-ltb, le-ltb}
use Rattle.mixers.specs.Rows.{live_of}
use Rattle.mixers.proofs.Rows.live.Goals as goal

pub returns-then-count-lt-MOST_ROWS-clause-value : goal.returns-then-count-lt-MOST_ROWS-clause-value
unfolding live_of
returns-then-count-lt-MOST_ROWS-clause-value c = simp (lt-ltb _ _ c.if-count-lt-MOST_ROWS.true)

pub returns-then-count-lt-MOST_ROWS-clause-upper_bound : goal.returns-then-count-lt-MOST_ROWS-clause-upper_bound
unfolding live_of
returns-then-count-lt-MOST_ROWS-clause-upper_bound c = omega arith

pub returns-clause-value : goal.returns-clause-value
unfolding live_of
returns-clause-value c = simp (le-ltb _ _ c.if-count-lt-MOST_ROWS.false)

pub returns-clause-upper_bound : goal.returns-clause-upper_bound
unfolding live_of
returns-clause-upper_bound c = omega arith

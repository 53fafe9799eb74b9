-- `bench_c::bench_run` meets its contract: where the array fits, what is handed back is the run from the state that was read from it. Assumes nothing.
use borrow.Author.Rules.{rules}
use mathlib.Core.Path.{◌∙◌}
use Rattle.bench_c.proofs.After.{of_run}
use Rattle.bench_c.specs.Library.{run}
use Rattle.bench_c.proofs.bench_run.Goals as goal

pub returns-then-state-eq-STATE_NUMBERS : goal.returns-then-state-eq-STATE_NUMBERS
unfolding run
returns-then-state-eq-STATE_NUMBERS c = let end = c.store_if_accepted.ensures ∙ of_run _ c.run_by-done.result in search rules

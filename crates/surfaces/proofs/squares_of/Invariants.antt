-- `surfaces::squares_of` meets its contract: after i iterations the sum is that of the first i slots. Assumes nothing.
use mathlib.Core.Path.{◌≡◌}
use Rattle.mixers.specs.Slots.{vec_sum_to}
use Rattle.surfaces.specs.Surface.{square_at}
use Rattle.surfaces.proofs.squares_of.Given as goal

abbrev pub invariant-loop-f : goal.invariant-loop-f
invariant-loop-f l = l.sum ≡ vec_sum_to (square_at l.fn.factors) l.f-index

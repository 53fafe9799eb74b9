-- `surfaces::Surfaces::deflection_rad` meets its contract: after i iterations the sum is that of the first i slots. Assumes nothing.
use mathlib.Core.Path.{◌≡◌}
use Rattle.mixers.specs.Slots.{vec_sum_to}
use Rattle.surfaces.specs.Surface.{deflection_at}
use Rattle.surfaces.proofs.Surfaces.deflection_rad.Given as goal

abbrev pub invariant-loop-i : goal.invariant-loop-i
invariant-loop-i l = l.unit ≡ vec_sum_to (deflection_at l.fn.self.weights l.fn.self.running) l.i

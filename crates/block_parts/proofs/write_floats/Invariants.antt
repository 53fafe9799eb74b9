-- `block_parts::write_floats` meets its contract. Assumes nothing.
use lib.ListN.{length}
use mathlib.Core.Path.{◌≡◌}
use Rattle.block_parts.specs.Parts.{put_floats}
use Rattle.block_parts.proofs.write_floats.Given as goal

abbrev pub invariant-loop-k : goal.invariant-loop-k
invariant-loop-k l = (length l.s ≡ length l.initial.s) × (l.s ≡ put_floats l.initial.s l.at l.fn.xs l.k)

-- The words before the mark are inputs.
use Rattle.std.proofs.Common.{◌≤◌, length}
use Rattle.arrayvec.specs.ArrayVec.{array_vec_len}
use Rattle.replay.proofs.line_words.read.Given as goal

abbrev pub invariant-loop-first : goal.invariant-loop-first
invariant-loop-first l = l.inputs ≤ array_vec_len l.words

abbrev pub decreases-loop-first : goal.decreases-loop-first
decreases-loop-first l = length l.rest

use Rattle.std.proofs.Common.{◌≡◌, ◌+◌, ◌*◌}
use Rattle.arrayvec.specs.ArrayVec.{array_vec_len}
use Rattle.replay.proofs.numbers.Answers.push_vecs.Given as goal

abbrev pub invariant-loop-vec : goal.invariant-loop-vec
invariant-loop-vec l = array_vec_len l.self.words ≡ array_vec_len l.fn.self.words + 3 * l.vec-index

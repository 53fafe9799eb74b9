-- `arrays::vecs_in` meets its contract. Assumes nothing.
use Prim.Native.Nat.{◌*◌, ◌+◌}
use borrow.Author.Rules.{rules}
use lib.Ieee.{nan}
use Rattle.float.specs.Lists.{list_from, list_of}
use Rattle.mixers.proofs.Made.{made_same}
use Rattle.vector.specs.Vector.{vec}
use Rattle.arrays.specs.Airframe.{vecs_in}
use Rattle.arrays.specs.Flight.{vec_in}
use Rattle.arrays.proofs.vecs_in.Goals as goal

pub returns : goal.returns
unfolding vecs_in list_of list_from
returns c =
    let a = c.args in
    made_same _ (λ k. vec_in a.xs.now (a.at + 3 * k)) (vec nan nan nan) _ _ 8 (λ x r f' k. search rules) c.from_fn.ensures.items

-- `arrays::slots_in` meets its contract. Assumes nothing.
use Prim.Native.Nat.{◌+◌}
use borrow.Author.Rules.{rules}
use lib.Ieee.{nan}
use Rattle.float.specs.Lists.{list_from, list_of}
use Rattle.mixers.proofs.Made.{made_same}
use Rattle.mixers.specs.Slots.{at}
use Rattle.arrays.specs.Flight.{slots_in}
use Rattle.arrays.proofs.slots_in.Goals as goal

pub returns : goal.returns
unfolding slots_in list_of list_from
returns c =
    let a = c.args in
    made_same _ (λ k. at a.xs.now (a.at + k)) nan _ _ 8 (λ x r f' k. search rules) c.from_fn.ensures.items

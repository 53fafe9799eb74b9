-- `arrays::flags_in` meets its contract. Assumes nothing.
use Prim.Native.Nat.{◌+◌}
use borrow.Author.Rules.{rules}
use mathlib.Core.Bool.{false}
use Rattle.float.specs.Lists.{list_from, list_of}
use Rattle.mixers.proofs.Made.{made_same}
use Rattle.mixers.specs.Slots.{at}
use Rattle.arrays.specs.Airframe.{flags_in, is_set}
use Rattle.arrays.proofs.flags_in.Goals as goal

pub returns : goal.returns
unfolding flags_in list_of list_from
returns c =
    let a = c.args in
    made_same _ (λ k. is_set (at a.xs.now (a.at + k))) false _ _ 8 (λ x r f' k. search rules) c.from_fn.ensures.items

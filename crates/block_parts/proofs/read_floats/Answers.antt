-- `block_parts::read_floats` meets its contract. Assumes nothing.
use borrow.Author.Rules.{rules}
use lib.Ieee.{nan}
use Rattle.float.specs.Lists.{list_from, list_of}
use Rattle.mixers.proofs.Made.{made_same}
use Rattle.block_parts.specs.Parts.{float_at, floats_from, slot_from}
use Rattle.block_parts.proofs.read_floats.Goals as goal

pub returns : goal.returns
unfolding floats_from slot_from float_at list_of list_from
returns c = made_same _ (slot_from c.args.s.now c.args.at) nan _ _ 8 (λ x r f' k. search rules) c.from_fn.ensures.items

-- `surfaces::Surfaces::move_to` meets its contract. Assumes nothing.
use borrow.Author.Rules.{rules}
use lib.Ieee.{nan, neg, of_bits}
use mathlib.Core.Path.{◌≡◌}
use Rattle.float.specs.Lists.{list_from, list_of}
use Rattle.mixers.proofs.Made.{made_same}
use Rattle.mixers.specs.Slots.{slots}
use Rattle.surfaces.specs.Surface.{move_at, move_to}
use Rattle.surfaces.proofs.Surfaces.move_to.Goals as goal

pub returns : goal.returns
unfolding move_to move_at of_bits neg list_of list_from
returns c =
    let a = c.args in
    let e : c.from_fn-running.result ≡ slots (move_at a.self a.commands a.factor) =
    made_same _ (move_at a.self a.commands a.factor) nan _ _ 8 (λ x r f' k. search rules) c.from_fn-running.ensures.items in
    rw e

-- `motors::Motors::spin` meets its contract. Assumes nothing.
use borrow.Author.Rules.{rules}
use lib.Ieee.{nan}
use mathlib.Core.Path.{◌≡◌}
use Rattle.float.specs.Lists.{list_from, list_of}
use Rattle.mixers.proofs.Made.{made_same}
use Rattle.mixers.specs.Slots.{slots}
use Rattle.motors.specs.Motor.{spin_at, spin_of}
use Rattle.motors.proofs.Motors.spin.Goals as goal

pub returns : goal.returns
unfolding spin_of spin_at list_of list_from
returns c =
    let a = c.args in
    let e : c.from_fn-running.result ≡ slots (spin_at a.self a.commands a.factor) =
    made_same _ (spin_at a.self a.commands a.factor) nan _ _ 8 (λ x r f' k. search rules) c.from_fn-running.ensures.items in
    rw e

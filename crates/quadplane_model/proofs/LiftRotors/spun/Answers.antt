-- `quadplane_model::LiftRotors::spun` meets its contract. Assumes nothing.
use borrow.Author.Rules.{rules}
use lib.Ieee.{nan}
use Rattle.float.specs.Lists.{list_from, list_of}
use Rattle.mixers.proofs.Made.{made_same}
use Rattle.mixers.specs.Slots.{at, flag_at}
use Rattle.motors.specs.Motor.{spin_at, spin_of, spun}
use Rattle.quadplane_model.specs.Lift.{rotors_at, rotors_spun}
use Rattle.quadplane_model.proofs.LiftRotors.spun.Goals as goal

pub returns : goal.returns
unfolding rotors_spun rotors_at spin_of spin_at list_of list_from
returns c =
    let a = c.args in
    made_same _ (λ k. spun (flag_at a.self.motors.used k) (at a.running k) (at a.commands k) a.factor) nan _ _ 8
    (λ x r f' k. search rules) c.from_fn.ensures.items

-- `wing::tick_accepted` meets its contract. Assumes nothing.
use Rattle.wing.specs.Tick.{accepted_tick, tick_of, tick_with}
use mathlib.Core.Path.{◌∙◌, sym}
use Rattle.wing.proofs.tick_accepted.Goals as goal

pub tick_inside-requires : goal.tick_inside-requires
tick_inside-requires c =
    record { state_inside = sym c.is_inside.ensures ∙ c.if-is_inside.true; lags_match = c.requires }

pub returns : goal.returns
unfolding tick_of tick_with accepted_tick
returns c = simp (c.refused.ensures, c.args.a.is_accepted, sym c.is_inside.ensures ∙ c.if-is_inside.false)

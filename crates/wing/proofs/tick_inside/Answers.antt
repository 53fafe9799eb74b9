-- `wing::tick_inside` meets its contract. Assumes nothing.
use Rattle.wing.specs.Tick.{accepted_tick, tick_of, tick_with}
use mathlib.Core.Path.{◌∙◌, sym}
use lib.Ieee.{of_bits, round}
use Rattle.wing.proofs.tick_inside.Goals as goal

pub returns-then-wind_usable : goal.returns-then-wind_usable
unfolding tick_of tick_with accepted_tick of_bits round
returns-then-wind_usable c =
    let outer = c in
    let pre = outer.requires in
    simp (
      c.unless_departed.ensures,
      c.next_with.ensures,
      sym c.wind_usable.ensures ∙ c.if-wind_usable.true,
      sym outer.inside.ensures ∙ outer.if-inside.true,
      outer.args.a.is_accepted,
      pre.state_inside,
    )

pub returns-then-inside : goal.returns-then-inside
unfolding tick_of tick_with accepted_tick of_bits round
returns-then-inside c =
    let outer = c in
    let pre = outer.requires in
    simp (
      c.refused.ensures,
      sym c.wind_usable.ensures ∙ c.if-wind_usable.false,
      sym outer.inside.ensures ∙ outer.if-inside.true,
      outer.args.a.is_accepted,
      pre.state_inside,
    )

pub returns : goal.returns
unfolding tick_of tick_with accepted_tick of_bits round
returns c =
    let pre = c.requires in
    simp (c.refused-2.ensures, sym c.inside.ensures ∙ c.if-inside.false, c.args.a.is_accepted, pre.state_inside)

-- `airframe_block::announced_of` meets its contract. Assumes nothing.
use mathlib.Core.Path.{◌∙◌, ap}
use Rattle.airframe_block.proofs.Small.{small-header}
use Rattle.airframe_block.specs.Block.{announced_by}
use Rattle.airframe_block.proofs.announced_of.Goals as goal

pub announced-requires : goal.announced-requires
announced-requires c = small-header _ _ _ c.header_of.ensures

pub returns : goal.returns
returns c = c.announced.ensures ∙ ap announced_by c.header_of.ensures

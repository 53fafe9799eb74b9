-- `mixers::reflected_axes` meets its contract. Assumes nothing.
use borrow.Author.Rules.{rules}
use lib.Ieee.{nan}
use Rattle.mixers.proofs.Made.{map_same}
use Rattle.mixers.specs.Reflection.{reflect_axes}
use Rattle.vector.specs.Reflection.{reflect_axis}
use Rattle.vector.specs.Vector.{vec}
use Rattle.mixers.proofs.reflected_axes.Goals as goal

pub returns : goal.returns
unfolding reflect_axes
returns c = map_same _ reflect_axis (vec nan nan nan) _ _ _ 8 (λ x r f' k. search rules) (search rules) c.map.ensures.items

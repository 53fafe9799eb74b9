-- `airframe_block::airframe_by` meets its contract: what the lent list of rows fills is what the array form fills. Assumes nothing.
use Rattle.airframe_block.specs.Block.{airframe_by}
use Rattle.airframe_block.proofs.airframe_by.Goals as goal

pub returns : goal.returns
unfolding airframe_by
returns c =
    let s = c in
    let filled = s.before.before.before in
    simp (
      c.from_numbers.ensures,
      s.surfaces-surfaces.ensures,
      filled.fill_from_rows-mix.ensures.motors_value,
      filled.fill_from_rows-mix.ensures.lift_value,
      filled.fill_from_rows-mix.ensures.result_value,
      filled.lift_layout_of.ensures,
      filled.motor_layout_of.ensures,
    )

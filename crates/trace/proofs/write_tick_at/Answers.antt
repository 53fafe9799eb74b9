-- `trace::write_tick_at` meets its contract. Assumes nothing.
use Rattle.block_parts.specs.Parts.{put_float}
use Rattle.trace.specs.Tick.{put_tick}
use Rattle.trace.proofs.write_tick_at.Goals as goal

pub returns : goal.returns
unfolding put_tick put_float
returns c = cc

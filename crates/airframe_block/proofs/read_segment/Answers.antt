-- `airframe_block::read_segment` meets its contract. Assumes nothing.
use native.Mathlib.Omega.{arith}
use Rattle.airframe_block.specs.Block.{put_segment}
use Rattle.airframe_block.proofs.Segments.{present-bytes}
use Rattle.airframe_block.proofs.read_segment.Goals as goal

pub read_present-requires-clause-bytes_within : goal.read_present-requires-clause-bytes_within
read_present-requires-clause-bytes_within c = omega (arith, present-bytes c.args.x c.if-x.true)

pub returns-then-x : goal.returns-then-x
unfolding put_segment
returns-then-x c = simp (c.read_present.ensures, c.if-x.true)

pub returns : goal.returns
unfolding put_segment
returns c = simp c.if-x.false

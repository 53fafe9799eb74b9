-- `airframe_block::segment_bytes` meets its contract. Assumes nothing.
use native.Mathlib.Omega.{arith}
use borrow.Author.Rules.{rules}
use Rattle.airframe_block.specs.Block.{segment_bytes}
use Rattle.airframe_block.proofs.segment_bytes.Goals as goal

pub returns-then-x-clause-value : goal.returns-then-x-clause-value
unfolding segment_bytes
returns-then-x-clause-value c = simp c.if-x.true

pub returns-then-x-clause-upper_bound : goal.returns-then-x-clause-upper_bound
unfolding segment_bytes
returns-then-x-clause-upper_bound c = search rules

pub returns-clause-value : goal.returns-clause-value
unfolding segment_bytes
returns-clause-value c = simp c.if-x.false

pub returns-clause-upper_bound : goal.returns-clause-upper_bound
unfolding segment_bytes
returns-clause-upper_bound c = omega arith

-- `flight::attitude_outside` meets its contract. Assumes nothing.
use lib.Ieee.{of_bits, round}
use borrow.Author.Rules.{rules}
use Rattle.flight.specs.Envelope.{attitude_outside}
use Rattle.ordered.specs.Ordered.{unless_zero}
use Rattle.flight.proofs.attitude_outside.Goals as goal

pub returns-then-inside-clause-value : goal.returns-then-inside-clause-value
unfolding attitude_outside unless_zero of_bits round
returns-then-inside-clause-value c = simp (
  simp (c.inside.ensures, c.norm_squared.ensures) at c.if-inside.true,
  c.inside.ensures,
  c.norm_squared.ensures,
)

pub returns-then-inside-clause-upper_bound : goal.returns-then-inside-clause-upper_bound
unfolding attitude_outside unless_zero of_bits round
returns-then-inside-clause-upper_bound c = search rules

pub returns-clause-value : goal.returns-clause-value
unfolding attitude_outside unless_zero of_bits round
returns-clause-value c = simp (
  simp (c.inside.ensures, c.norm_squared.ensures) at c.if-inside.false,
  c.inside.ensures,
  c.norm_squared.ensures,
)

pub returns-clause-upper_bound : goal.returns-clause-upper_bound
unfolding attitude_outside unless_zero of_bits round
returns-clause-upper_bound c = search rules

-- `aero::sign` meets its contract. Assumes nothing.
use lib.Ieee.{div, neg, of_bits}
use Rattle.book.specs.Numbers.{sign_of}
use Rattle.aero.proofs.sign.Goals as goal

pub returns-then-x : goal.returns-then-x
unfolding sign_of of_bits neg div
returns-then-x c = simp c.if-x.true

pub returns-then-x-2 : goal.returns-then-x-2
unfolding sign_of of_bits neg div
returns-then-x-2 c = simp (c.if-x-2.true, c.if-x.false)

pub returns : goal.returns
unfolding sign_of of_bits neg div
returns c = simp (c.if-x-2.false, c.if-x.false)

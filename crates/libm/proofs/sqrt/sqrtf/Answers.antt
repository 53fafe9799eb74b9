-- `libm::sqrtf` meets its contract: a positive finite value by its pattern, and infinity, zero, the rest each by its own law. Assumes nothing.
use lib.Dec.{T}
use lib.Ieee.{binary32}
use lib.Ieee.Bits.{of_bits-to_bits}
use mathlib.Core.Path.{◌∙◌, ap, subst, sym}
use Rattle.float.proofs.Patterns.{zero_by_zero}
use Rattle.libm.proofs.Signs.{bits_pos, rest-has-no-root, top-is-infinite, zero-is-root}
use Rattle.libm.specs.Sqrt.{sqrt_of}
use Rattle.libm.proofs.sqrt.sqrtf.Goals as goal

pub positive-requires-clause-above_zero : goal.positive-requires-clause-above_zero
positive-requires-clause-above_zero c = bits_pos c.args.x (subst T (sym c.well_formed.0.1) tt) c.if-x.true

pub returns-then-b-lt2139095040 : goal.returns-then-b-lt2139095040
returns-then-b-lt2139095040 c =
    c.positive.ensures ∙ ap (sqrt_of binary32)
    (of_bits-to_bits binary32 c.args.x (subst T (sym c.well_formed.0.1) tt))

pub returns-then-x : goal.returns-then-x
unfolding sqrt_of
returns-then-x c = rw (top-is-infinite c.args.x (subst T (sym c.well_formed.0.1) tt) c.if-x.true c.if-b-lt2139095040.false)

pub returns-then-x-2 : goal.returns-then-x-2
returns-then-x-2 c = zero-is-root c.args.x c.if-x-2.true

pub returns : goal.returns
returns c = zero_by_zero ∙ sym (rest-has-no-root c.args.x c.if-x.false c.if-x-2.false)

-- `libm::log::logf` meets its contract: a positive finite value by its pattern, and infinity, zero, the rest each by its own law. Assumes nothing.
use lib.Dec.{T}
use lib.Ieee.{binary32, nan_bits, of_bits}
use lib.Ieee.Bits.{of_bits-to_bits}
use mathlib.Core.Path.{◌∙◌, ap, subst, sym}
use Rattle.float.proofs.Patterns.{zero_by_zero}
use Rattle.libm.proofs.Signs.{bits_pos, rest-has-no-ln, top-is-infinite, zero-has-ln}
use Rattle.libm.specs.Log.{ln_of}
use Rattle.libm.proofs.log.logf.Goals as goal

pub positive-requires-clause-above_zero : goal.positive-requires-clause-above_zero
positive-requires-clause-above_zero c = bits_pos c.args.v (subst T (sym c.well_formed.0.1) tt) c.if-v.true

pub returns-then-b-lt2139095040 : goal.returns-then-b-lt2139095040
returns-then-b-lt2139095040 c = c.positive.ensures ∙ ap ln_of (of_bits-to_bits binary32 c.args.v (subst T (sym c.well_formed.0.1) tt))

pub returns-then-v : goal.returns-then-v
unfolding ln_of
returns-then-v c = rw (top-is-infinite c.args.v (subst T (sym c.well_formed.0.1) tt) c.if-v.true c.if-b-lt2139095040.false)

pub float_from_bits-result : goal.float_from_bits-result
unfolding nan_bits
float_from_bits-result c = tt

pub returns-then-v-2 : goal.returns-then-v-2
unfolding of_bits
returns-then-v-2 c = sym (zero-has-ln c.args.v c.if-v-2.true)

pub returns : goal.returns
returns c = zero_by_zero ∙ sym (rest-has-no-ln c.args.v c.if-v.false c.if-v-2.false)

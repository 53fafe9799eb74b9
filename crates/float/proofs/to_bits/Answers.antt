-- `float::to_bits` meets its contract: what differs from itself is a NaN, and only for a NaN are the bits chosen. Assumes nothing.
use Rattle.std.proofs.Common.{◌≡◌, T, sym, ap, subst}
use lib.Ieee.{Float, nan, binary32, to_bits}
use lib.Ieee.Compare.{differs_from_itself}
use Rattle.float.proofs.Patterns.{no_nan}
use Rattle.float.proofs.to_bits.Goals as goal

nan-bits : (x : Float) → x ≡ nan → to_bits binary32 x ≡ 0x7fc0_0000
unfolding to_bits
nan-bits x e = ap (to_bits binary32) e

pub float_to_bits-result : goal.float_to_bits-result
float_to_bits-result c = no_nan c.args.x c.if-x.false

pub returns-then-x : goal.returns-then-x
returns-then-x c = sym (nan-bits c.args.x (differs_from_itself c.args.x (subst T (sym c.if-x.true) tt)))

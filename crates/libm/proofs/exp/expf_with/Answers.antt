-- `libm::exp::expf_with` meets its contract: after the three tests x is from -87 to 88, where its binary exponent is one of the table's. Assumes nothing.
use lib.Dec.{T}
use lib.Ieee.{nan_bits, neg, of_bits, round}
use lib.IntN.{ℤ}
use mathlib.Core.Path.{◌∙◌, ap, subst, sym}
use lib.Ieee.Compare.{differs_from_itself}
use mir.Syntax.{w64}
use mir.ValLaws.{to_z-of_z}
use Rattle.libm.proofs.Exponents.{exponent-fits, tested}
use Rattle.libm.specs.Exp.{core, exp_of}
use Rattle.libm.proofs.exp.expf_with.Goals as goal

pub returns-then-x : goal.returns-then-x
unfolding exp_of
returns-then-x c = rw c.if-x.true (differs_from_itself c.args.x (subst T (sym c.if-x.true) tt))

pub returns-then-x-2 : goal.returns-then-x-2
unfolding exp_of of_bits neg round
returns-then-x-2 c = rw (c.if-x.false, c.if-x-2.true)

pub float_from_bits-result : goal.float_from_bits-result
unfolding nan_bits
float_from_bits-result c = tt

pub returns-then-x-3 : goal.returns-then-x-3
unfolding exp_of of_bits neg round
returns-then-x-3 c = rw (c.if-x.false, c.if-x-2.false, c.if-x-3.true)

pub binary_exponent-k-requires : goal.binary_exponent-k-requires
unfolding of_bits neg round
binary_exponent-k-requires c = tested c.args.x c.if-x.false c.if-x-2.false c.if-x-3.false

pub returns : goal.returns
unfolding exp_of core of_bits neg round
returns c =
    let e = c in
    let t = c.binary_exponent-k in
    rw (e.if-x.false, e.if-x-2.false, e.if-x-3.false, c.power_of_two.ensures, c.poly.ensures, c.rest.ensures)
    (ap (λ (k : ℤ). core e.args.x k) (to_z-of_z w64 t.result (exponent-fits t.result t.ensures.in-range) ∙ t.ensures.is))

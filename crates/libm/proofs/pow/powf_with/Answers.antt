-- `libm::pow::powf_with` meets its contract. Assumes nothing.
use lib.Ieee.{of_bits}
use mathlib.Core.Bool.{false, true}
use mathlib.Core.Path.{◌∙◌, ◌≡◌, sym}
use Rattle.float.proofs.Patterns.{zero_by_zero}
use Rattle.float.specs.Interval.{inside}
use Rattle.float.specs.Notation.{zero, one}
use Rattle.libm.specs.Pow.{pow_of}
use Rattle.libm.proofs.pow.powf_with.Goals as goal

pub returns-then-v : goal.returns-then-v
unfolding pow_of of_bits
returns-then-v c = rw c.if-v.true

pub returns-then-inside : goal.returns-then-inside
unfolding pow_of of_bits
returns-then-inside c =
    let k = c in
    let t = k in
    let i : inside zero one t.args.v ≡ true = sym t.inside.ensures ∙ t.if-inside.true in
    rw (t.if-v.false, i, c.at_most_one.ensures, c.expf_with.ensures, k.logf.ensures)

pub returns : goal.returns
unfolding pow_of of_bits
returns c =
    let i : inside zero one c.args.v ≡ false = sym c.inside.ensures ∙ c.if-inside.false in
    rw (c.if-v.false, i) zero_by_zero

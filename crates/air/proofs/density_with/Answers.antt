-- `air::density_with` meets its contract: past the three tests the height is a number between the table's ends. Assumes nothing.
use lib.Dec.{T}
use lib.Ieee.{le, neg, of_bits, of_int, round}
use lib.Ieee.Compare.{differs_from_itself}
use mathlib.Core.Bool.{Bool, false, not, true}
use mathlib.Core.Path.{◌∙◌, ◌≡◌, ap, subst, sym}
use Rattle.float.proofs.Order.{same_number}
use Rattle.air.proofs.Range.{density-nan}
use Rattle.air.proofs.Rows.{between_ends}
use Rattle.air.specs.Promises.{Inside}
use Rattle.air.specs.Density.{density_at, density_of, height_of, last_row}
use Rattle.air.proofs.density_with.Goals as goal

past-tests : (c : goal.Else-height_m-3) → Inside c.args.height_m
unfolding height_of of_int of_bits neg round
past-tests c =
    between_ends c.args.height_m
    (same_number c.args.height_m (subst (λ (t : Bool). T (not t)) (sym c.if-height_m-3.false) tt)) c.if-height_m.false
    c.if-height_m-2.false

pub returns-then-height_m : goal.returns-then-height_m
unfolding density_at density_of height_of of_int of_bits neg round
returns-then-height_m c =
    let low : le c.args.height_m (height_of 0) ≡ true = c.if-height_m.true in
    rw (c.args.densities.now.is_atmosphere, low)

pub returns-then-height_m-2 : goal.returns-then-height_m-2
unfolding density_at density_of height_of of_int of_bits neg round
returns-then-height_m-2 c =
    let s = c in
    let not_low : le s.args.height_m (height_of 0) ≡ false = c.if-height_m.false in
    let high : le (height_of last_row) s.args.height_m ≡ true = c.if-height_m-2.true in
    rw (s.args.densities.now.is_atmosphere, not_low, high)

pub returns-then-height_m-3 : goal.returns-then-height_m-3
returns-then-height_m-3 c =
    let nan_is = differs_from_itself c.args.height_m (subst T (sym c.if-height_m-3.true) tt) in
    nan_is ∙ sym density-nan ∙ ap density_at (sym nan_is)

pub within_table-requires : goal.within_table-requires
within_table-requires c = past-tests c

pub returns : goal.returns
unfolding density_at height_of of_int of_bits neg round
returns c =
    let e = c in
    let h = e.args.height_m in
    let not_low : le h (height_of 0) ≡ false = e.if-height_m.false in
    let not-high : le (height_of last_row) h ≡ false = e.if-height_m-2.false in
    rw (not_low, not-high, c.within_table.ensures)

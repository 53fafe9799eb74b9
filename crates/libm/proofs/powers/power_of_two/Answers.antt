-- `libm::powers::power_of_two` meets its contract: k + 126 is an index of the table, so the machine's sum and cast lose nothing. Assumes nothing.
use Prim.Native.Nat.{◌<◌, ℕ}
use lib.Ieee.{Float, nan}
use lib.IntN.{◌+ℤ◌, nat_abs, pos, ℤ}
use lib.ListN.{get_or}
use mathlib.Core.List.{List}
use mathlib.Core.Path.{◌∙◌, ◌≡◌, ap, subst, sym}
use mir.Syntax.{w64}
use mir.Val.{SFits, of_z, to_z}
use mir.ValLaws.{to_z-of_z}
use native.Mathlib.Omega.{arith}
use Rattle.libm.proofs.Entries.{Index, entry, index_of}
use Rattle.libm.specs.Promises.{Exponent}
use Rattle.libm.specs.Powers.{power_count}
use Rattle.libm.proofs.powers.power_of_two.Goals as goal

-- the index, as the machine reads the sum
at : (k : ℤ) → SFits w64 k → Exponent k → Index k (to_z w64 (of_z w64 k) +ℤ pos 126)
at k r e = subst (λ (z : ℤ). Index k (z +ℤ pos 126)) (sym (to_z-of_z w64 k r)) (index_of k e)

held : (n : ℕ) → n < power_count → SFits w64 (pos n)
held n h = record { sfits = omega arith }

again : (k : ℤ) (r : SFits w64 k) (e : Exponent k) → to_z w64 (of_z w64 (to_z w64 (of_z w64 k) +ℤ pos 126)) ≡ pos (at k r e).i
again k r e = ap (λ (z : ℤ). to_z w64 (of_z w64 z)) (at k r e).is ∙ to_z-of_z w64 (pos (at k r e).i) (held (at k r e).i (at k r e).below)

pub returns : goal.returns
returns c =
    let b = c in
    ap (λ (z : ℤ). get_or b.args.powers.now.table (nat_abs z) nan) (again b.args.k b.ranges.k b.requires)
    ∙ ap (λ (t : List Float). get_or t (at b.args.k b.ranges.k b.requires).i nan) b.args.powers.now.is_powers
    ∙ entry (at b.args.k b.ranges.k b.requires).i (at b.args.k b.ranges.k b.requires).below
    ∙ (at b.args.k b.ranges.k b.requires).power

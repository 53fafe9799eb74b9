-- `arrays::numbers_in` meets its contract: the numbers before the lift rotors' are copied, then theirs. Assumes nothing.
use borrow.Rule.Slice.PartMut.{put_mid}
use lib.Ieee.{of_bits}
use lib.ListN.{replicate}
use mathlib.Core.List.{◌++◌}
use mathlib.Core.Path.{◌∙◌, ap₂, refl, sym}
use native.Mathlib.Omega.{arith}
use Rattle.std.proofs.lemmas.List.{length-take-le}
use Rattle.airframe.specs.Numbers.{lift_count, lift_first}
use Rattle.float.specs.Notation.{zero}
use Rattle.arrays.proofs.Numbers.{places-copied}
use Rattle.arrays.proofs.numbers_in.Goals as goal

pub slice_bounds-copy_from_slice-end-2 : goal.slice_bounds-copy_from_slice-end-2
slice_bounds-copy_from_slice-end-2 c = sym (length-take-le lift_first c.args.xs.now (omega (arith, c.requires)))

pub copy_from_slice-requires : goal.copy_from_slice-requires
copy_from_slice-requires c = sym (length-take-le lift_first c.args.xs.now (omega (arith, c.requires)))

pub returns : goal.returns
unfolding of_bits
returns c =
    let none = replicate lift_count zero in
    ap₂ (λ base lift. put_mid lift_first lift_count (base ++ none) lift) c.copy_from_slice.ensures.after c.copy_from_slice-2.ensures.after
    ∙ places-copied c.args.xs.now none c.requires refl

-- `libm::log::mantissa_and_exponent` meets its contract: the machine's difference loses nothing. Assumes nothing.
use Prim.Native.Nat.{◌%◌, ◌+◌, ◌-◌, ◌/◌}
use lib.Ieee.{binary32, minus, of_bits}
use lib.IntN.{◌-ℤ◌, pos, ℤ}
use mathlib.Core.Path.{◌∙◌, ◌≡◌, ap, subst, sym}
use native.Mathlib.Omega.{arith}
use mir.Syntax.{w64}
use mir.Val.{of_z, to_z}
use mir.ValLaws.{to_z-of_z, to_z_pos}
use Rattle.float.proofs.Differences.{sub-minus}
use Rattle.float.proofs.Patterns.{not-nan-pattern}
use Rattle.libm.proofs.Splits.{binary-fits, split_pattern}
use Rattle.libm.specs.Promises.{SplitOf}
use Rattle.libm.proofs.log.mantissa_and_exponent.Goals as goal

-- the exponent as the machine reads it
field : (c : goal.Start) → to_z w64 ((c.args.b + 1065353216 - 1060439283) / 8388608) -ℤ pos 127 ≡ minus ((c.args.b + 1065353216 - 1060439283) / 8388608) 127
field c =
    let a = (c.args.b + 1065353216 - 1060439283) / 8388608 in
    ap (λ (z : ℤ). z -ℤ pos 127) (to_z_pos w64 a (omega arith)) ∙ sub-minus a 127

pub float_from_bits-result : goal.float_from_bits-result
float_from_bits-result c = not-nan-pattern ((c.args.b + 1065353216 - 1060439283) % 8388608 + 1060439283) (omega arith)

pub returns : goal.returns
returns c =
    let b = c.args.b in
    let s = split_pattern b c.requires.normal c.requires.finite in
    subst (λ (z : ℤ). SplitOf (of_bits binary32 b) (of_bits binary32 ((b + 1065353216 - 1060439283) % 8388608 + 1060439283)) z)
    (sym (ap (λ (z : ℤ). to_z w64 (of_z w64 z)) (field c) ∙ to_z-of_z w64 _ (binary-fits _ s.in-range))) s

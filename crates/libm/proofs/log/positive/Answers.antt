-- `libm::log::positive` meets its contract: below the normal range the pattern b is a whole number of 2 ^ -149, so b's own parts
-- are taken, with 149 less in the exponent. Assumes nothing.
use Prim.Native.Nat.{◌<◌, ℕ}
use lib.Ieee.{Float, binary32, of_bits, of_int, to_bits}
use lib.Ieee.Bits.{of_bits-to_bits}
use lib.Ieee.Fits.{of_int-fits}
use lib.IntN.{◌-ℤ◌, pos, ℤ}
use mathlib.Core.Path.{◌∙◌, ◌≡◌, ap, subst, sym}
use native.Mathlib.Omega.{arith}
use mir.Syntax.{w64}
use mir.Val.{of_z, to_z}
use mir.ValLaws.{to_z-of_z}
use Rattle.libm.proofs.Splits.{binary-fits, ln-below, ln-pattern, lowered-binary, whole-number, whole-pattern}
use Rattle.libm.specs.Promises.{Binary, SplitOf}
use Rattle.libm.specs.Log.{ln_of_parts}
use Rattle.libm.proofs.log.positive.Goals as goal

-- what the parts of b as a float are, and the exponent as the machine reads it
abbrev Whole : ℕ → Float → ℤ → Type 0
Whole b m e = SplitOf (of_bits binary32 (to_bits binary32 (of_int binary32 (pos b)))) m e

whole_parts : (b : ℕ) (m : Float) (e : ℤ) → Whole b m e → SplitOf (of_int binary32 (pos b)) m e
whole_parts b m e w = subst (λ (x : Float). SplitOf x m e) (of_bits-to_bits binary32 (of_int binary32 (pos b)) (of_int-fits binary32 (pos b))) w

read : (b : ℕ) (m : Float) (e : ℤ) → Whole b m e → to_z w64 (of_z w64 e) ≡ e
read b m e w = to_z-of_z w64 e (binary-fits e w.in-range)

lowered : (b : ℕ) (m : Float) (e : ℤ) → 0 < b → b < 8388608 → Whole b m e → Binary (e -ℤ pos 149)
lowered b m e p l w = lowered-binary b p l m e (whole_parts b m e w)

read-lowered : (b : ℕ) (m : Float) (e : ℤ) → 0 < b → b < 8388608 → Whole b m e → to_z w64 (of_z w64 (to_z w64 (of_z w64 e) -ℤ pos 149)) ≡ e -ℤ pos 149
read-lowered b m e p l w =
    ap (λ (z : ℤ). to_z w64 (of_z w64 (z -ℤ pos 149))) (read b m e w)
    ∙ to_z-of_z w64 (e -ℤ pos 149) (binary-fits (e -ℤ pos 149) (lowered b m e p l w))

pub float_to_bits-b : goal.float_to_bits-b
float_to_bits-b c = whole-number c.args.b c.requires.above_zero c.if-b-lt8388608.true

pub mantissa_and_exponent-p-requires : goal.mantissa_and_exponent-p-requires
mantissa_and_exponent-p-requires c =
    let w = whole-pattern c.args.b c.requires.above_zero c.if-b-lt8388608.true in record { normal = w.0; finite = w.1 }

pub joined-requires : goal.joined-requires
joined-requires c =
    let b = c.args.b in
    let r = c.mantissa_and_exponent-p.result in
    let w = c.mantissa_and_exponent-p.ensures in
    subst Binary (sym (read-lowered b r.mantissa r.exponent c.requires.above_zero c.if-b-lt8388608.true w))
    (lowered b r.mantissa r.exponent c.requires.above_zero c.if-b-lt8388608.true w)

pub returns-then-b-lt8388608 : goal.returns-then-b-lt8388608
returns-then-b-lt8388608 c =
    let b = c.args.b in
    let r = c.mantissa_and_exponent-p.result in
    let w = c.mantissa_and_exponent-p.ensures in
    c.joined.ensures
    ∙ ap (λ (z : ℤ). ln_of_parts r.mantissa z) (read-lowered b r.mantissa r.exponent c.requires.above_zero c.if-b-lt8388608.true w)
    ∙ ln-below b c.requires.above_zero c.if-b-lt8388608.true r.mantissa r.exponent (whole_parts b r.mantissa r.exponent w)

pub returns : goal.returns
returns c =
    let k = c in
    let s = c in
    let r = k.mantissa_and_exponent-p-2.result in
    c.joined-2.ensures
    ∙ ap (λ (z : ℤ). ln_of_parts r.mantissa z) (to_z-of_z w64 r.exponent (binary-fits r.exponent k.mantissa_and_exponent-p-2.ensures.in-range))
    ∙ ln-pattern s.args.b (omega arith) s.requires.finite r.mantissa r.exponent k.mantissa_and_exponent-p-2.ensures

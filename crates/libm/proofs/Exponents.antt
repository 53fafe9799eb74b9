-- How many times ln 2 is in an argument from -87 to 88: what the code asks of that number, an exponent from -126 to 127. Each
-- operation is monotone, so the ends decide. Assumes nothing.
use lib.Dec.{T, leb→le, le→leb}
use lib.Ieee.{Float, add, binary32, fin, in_float, is_nan, le, lt, mul, ne, neg, of_bits, round, sub, to_signed}
use lib.Ieee.Bits.{is_false}
use lib.Ieee.Scale.{finite}
use lib.IntN.{negsuc, pos, ℤ}
use mathlib.Core.Bool.{false, not, true}
use mathlib.Core.Path.{◌≡◌}
use mir.Syntax.{w64}
use mir.Val.{SFits}
use native.Mathlib.Omega.{arith}
use Rattle.float.proofs.Interval.{plus-in, scale_in, sub_in, within-finite, within_wider}
use Rattle.float.proofs.Order.{finite_number, le-lt, le→not-lt, lt-le, not-lt→le, number_same, same_number}
use Rattle.float.proofs.Tests.{either}
use Rattle.float.proofs.Truncation.{to_signed-mono}
use Rattle.float.specs.Interval.{Within}
use Rattle.float.specs.Notation.{half, zero}
use Rattle.libm.proofs.Splits.{binary-fits, binary-in-float}
use Rattle.libm.specs.Promises.{Binary, Exponent, ExponentOf}
use Rattle.libm.specs.Exp.{core, exp_of, highest, log2e, lowest, near_down, near_up, binary_exponent}

-- what is cut lies from -126.5 to 127.5
abbrev cut_low : Float
cut_low = fin true 253 (negsuc 0)

abbrev cut_high : Float
cut_high = fin false 255 (negsuc 0)

scaled : (x : Float) → Within lowest highest x → Within (mul binary32 lowest log2e) (mul binary32 highest log2e) (mul binary32 x log2e)
unfolding neg of_bits round
scaled x w = scale_in binary32 log2e lowest highest x tt (unfold le neg of_bits round in tt) tt tt w

pub cut-up-in : (x : Float) → Within lowest highest x → Within cut_low cut_high (add binary32 (mul binary32 x log2e) half)
cut-up-in x w =
    within_wider (add binary32 (mul binary32 lowest log2e) half) (add binary32 (mul binary32 highest log2e) half) cut_low cut_high
    (add binary32 (mul binary32 x log2e) half) (unfold le add mul neg of_bits round in tt) (unfold le add mul neg of_bits round in tt)
    (plus-in binary32 half (mul binary32 lowest log2e) (mul binary32 highest log2e) (mul binary32 x log2e) tt (unfold mul neg of_bits round in tt)
    (unfold mul neg of_bits round in tt) (scaled x w))

pub cut-down-in : (x : Float) → Within lowest highest x → Within cut_low cut_high (sub binary32 (mul binary32 x log2e) half)
cut-down-in x w =
    within_wider (sub binary32 (mul binary32 lowest log2e) half) (sub binary32 (mul binary32 highest log2e) half) cut_low cut_high
    (sub binary32 (mul binary32 x log2e) half) (unfold le sub mul neg of_bits round in tt) (unfold le sub mul neg of_bits round in tt)
    (sub_in binary32 half (mul binary32 lowest log2e) (mul binary32 highest log2e) (mul binary32 x log2e) tt (unfold mul neg of_bits round in tt)
    (unfold mul neg of_bits round in tt) (scaled x w))

pub cut-is-exponent : (u : Float) → Within cut_low cut_high u → Exponent (to_signed 63 u)
unfolding to_signed of_bits round
cut-is-exponent u w =
    let f = within-finite cut_low cut_high u tt tt w in
    record { at_least = to_signed-mono 63 cut_low u tt f w.at_least; at_most = to_signed-mono 63 u cut_high f tt w.at_most }

-- what the cut asks: below 2 ^ 24 in size
pub cut-is-small : (u : Float) → Within cut_low cut_high u → T (lt (fin true 1 (pos 24)) u) × T (lt u (fin false 1 (pos 24)))
cut-is-small u w =
    let f = within-finite cut_low cut_high u tt tt w in (
      lt-le (fin true 1 (pos 24)) cut_low u tt tt f (unfold lt in tt) w.at_least,
      le-lt u cut_high (fin false 1 (pos 24)) f tt tt w.at_most (unfold lt in tt),
    )

-- an exponent as the machine and a float hold it
exponent-binary : (k : ℤ) → Exponent k → Binary k
exponent-binary (pos n) e = record { at_least = tt; at_most = le→leb n 128 (omega (arith, leb→le n 127 e.at_most)) }
exponent-binary (negsuc j) e = record { at_least = le→leb j 148 (omega (arith, leb→le j 125 e.at_least)); at_most = tt }

pub exponent-fits : (k : ℤ) → Exponent k → SFits w64 k
exponent-fits k e = binary-fits k (exponent-binary k e)

pub exponent-in-float : (k : ℤ) → Exponent k → T (in_float binary32 k)
exponent-in-float k e = binary-in-float k (exponent-binary k e)

pub nearest-up : (x : Float) → Within lowest highest x → le zero x ≡ true → ExponentOf x (to_signed 63 (add binary32 (mul binary32 x log2e) half))
unfolding binary_exponent near_up of_bits round
nearest-up x w e = record { is = rw e; in-range = cut-is-exponent (add binary32 (mul binary32 x log2e) half) (cut-up-in x w) }

pub nearest-down : (x : Float) → Within lowest highest x → le zero x ≡ false → ExponentOf x (to_signed 63 (sub binary32 (mul binary32 x log2e) half))
unfolding binary_exponent near_down of_bits round
nearest-down x w e = record { is = rw e; in-range = cut-is-exponent (sub binary32 (mul binary32 x log2e) half) (cut-down-in x w) }

-- what is left after `exp_of`'s three tests
pub tested : (x : Float) → ne x x ≡ false → lt x lowest ≡ false → lt highest x ≡ false → Within lowest highest x
tested x a b c =
    let n : T (not (is_nan x)) = same_number x (rw a tt) in
    record {
      at_least = not-lt→le x lowest n (unfold is_nan neg of_bits round in tt) (rw b tt);
      at_most = not-lt→le highest x (unfold is_nan neg of_bits round in tt) n (rw c tt);
    }

-- and what is not under -87 nor over 88 takes the last way of `exp_of`
pub exp-core : (x : Float) → Within lowest highest x → exp_of x ≡ core x (binary_exponent x)
unfolding exp_of neg of_bits round
exp-core x w =
    let p : T (finite x) = within-finite lowest highest x tt tt w in
    rw (
      is_false (ne x x) (number_same x (finite_number x p)),
      is_false (lt x lowest) (le→not-lt x lowest p tt w.at_least),
      is_false (lt highest x) (le→not-lt highest x tt p w.at_most),
    )

pub exponent-in : (x : Float) → Within lowest highest x → Exponent (binary_exponent x)
unfolding binary_exponent near_up near_down
exponent-in x w =
    either Exponent (le zero x) (cut-is-exponent (add binary32 (mul binary32 x log2e) half) (cut-up-in x w))
    (cut-is-exponent (sub binary32 (mul binary32 x log2e) half) (cut-down-in x w))

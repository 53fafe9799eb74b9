-- `lines::digits::shown` meets its contract: a zero, and any other number. Assumes nothing.
use Prim.Native.Nat as Nat
use Rattle.std.proofs.Common.{◌≡◌, suc, true, false, ℤ, sym, refl, ap, ◌∙◌, true≢false, zero-mul}
use lib.Ieee.{Float, binary32, eq, fin, inf, nan, of_bits, to_bits}
use mathlib.Core.Bool.{false≢true}
use native.Mathlib.Nat.{zero-div}
use Rattle.float.proofs.Zeros.{some-not-zero, zero-is-zero}
use Rattle.float.specs.Notation.{zero}
use Rattle.float.specs.Same.{num}
use Rattle.lines.proofs.digits.shown.Goals as goal

zero_bits : (e : ℤ) → 0 ≡ to_bits binary32 (fin false Nat.zero e)
unfolding to_bits
zero_bits e = simp (zero-mul, zero-div)

of_zero : (x : Float) → eq x zero ≡ true → 0 ≡ to_bits binary32 (num x)
unfolding num
of_zero nan h = absurd (false≢true (unfold eq in h))
of_zero (inf s) h = absurd (false≢true (unfold eq in h))
of_zero (fin s Nat.zero e) h = zero_bits e
of_zero (fin s (suc m) e) h = absurd (false≢true (sym (some-not-zero s m e) ∙ h))

of_other : (x : Float) → eq x zero ≡ false → x ≡ num x
unfolding num
of_other nan h = refl
of_other (inf s) h = refl
of_other (fin s Nat.zero e) h = absurd (true≢false (sym (zero-is-zero s e) ∙ h))
of_other (fin s (suc m) e) h = refl

pub returns-then-x : goal.returns-then-x
returns-then-x c = of_zero c.args.x (unfold of_bits in c.if-x.true)

pub returns : goal.returns
returns c = c.to_bits.ensures ∙ ap (to_bits binary32) (of_other c.args.x (unfold of_bits in c.if-x.false))

-- std's `abs` is the size of a number, `abs`: a zero of the format is written in one way. Assumes nothing.
use Prim.Native.Nat as Nat
use Rattle.std.proofs.Common.{◌≡◌, suc, false, true, sym, refl, ap, ◌∙◌}
use lib.Ieee.{Float, fin, fits, inf, nan, binary32}
use Rattle.std.specs.Float.{float_with_sign}
use Rattle.float.proofs.Equal.{one-zero}
use Rattle.float.specs.Notation.{abs}

size : (x : Float) → fits binary32 (float_with_sign false x) ≡ true → float_with_sign false x ≡ abs x
unfolding abs float_with_sign
size nan h = refl
size (inf s) h = refl
size (fin s Nat.zero e) h = one-zero binary32 e h
size (fin s (suc m) e) h = refl

pub size_held : (x y : Float) → y ≡ float_with_sign false x → fits binary32 y ≡ true → y ≡ abs x
size_held x y e h = e ∙ size x (sym (ap (fits binary32) e) ∙ h)

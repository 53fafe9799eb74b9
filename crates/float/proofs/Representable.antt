-- What owning an array of 32-bit floats tells: the format holds each element, and a NaN stands past its end. Assumes nothing.
use Rattle.std.proofs.Common.{ℕ, zero, suc, T, List, [], ◌∷◌, get_or, sym, subst}
use denote.Array.{each}
use denote.Builtin.{f32}
use denote.Shadow.{shadow}
use lib.Ieee.{Float, binary32, fits, nan}
use mir.Val.{Val}

pub field-representable : (xs : List Float) (us : List Val) (i : ℕ) → shadow (each Float f32.own_val xs us) → T (fits binary32 (get_or xs i nan))
unfolding fits
field-representable [] [] i p = tt
field-representable [] (u ∷ us) i p = absurd p
field-representable (x ∷ xs) [] i p = absurd p
field-representable (x ∷ xs) (u ∷ us) zero p = subst T (sym p.0.1) tt
field-representable (x ∷ xs) (u ∷ us) (suc i) p = field-representable xs us i p.1

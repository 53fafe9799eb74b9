-- Floats that the machine's == calls equal are one number, as `num` says: a value of the format is written in one way. Assumes nothing.
use Rattle.std.proofs.Common.{◌≡◌, ℕ, zero, suc, ◌*◌, Bool, true, false, ◌&&◌, ◌||◌, T, eqb, ℤ, pos, sym, refl, ap, ◌∙◌, subst, true≢false, lt_irrefl, zero-lt-suc, mul-pos, zero-mul, suc-ne-zero, eqb→eq}
use lib.Ieee.{Float, Format, down, eq, fin, fits, inf, nan, up}
use lib.Ieee.Fits.{and_l, and_r, down_pos, up_pos}
use lib.Ieee.Scale.{round_same}
use mathlib.Core.Bool.{beq}
use Rattle.float.proofs.Exact.{round-held}
use Rattle.float.specs.Same.{num}

-- one sign and one value: one float
same_sign : (f : Format) (s : Bool) (m n : ℕ) (e d : ℤ) → T (fits f (fin s m e)) → T (fits f (fin s n d)) → m * up e * down d ≡ n * up d * down e
    → fin s m e ≡ fin s n d
same_sign f s m n e d p q v =
    sym (round-held f s m e p) ∙ round_same f s (m * up e) (down e) (n * up d) (down d) (down_pos e) (down_pos d) v ∙ round-held f s n d q

-- a value of 0 is that of a zero
is_zero : (m : ℕ) (e d : ℤ) → m * up e * down d ≡ 0 → m ≡ 0
is_zero zero e d v = refl
is_zero (suc m) e d v = absurd (lt_irrefl 0 (rw v at (mul-pos (mul-pos (zero-lt-suc m) (up_pos e)) (down_pos d))))

-- two zeros
zero-fits : (f : Format) (s : Bool) (e : ℤ) → T (fits f (fin s zero e)) → T (fits f (fin false zero e))
unfolding fits
zero-fits f s e p = p

zeros-same : (f : Format) (s t : Bool) (e d : ℤ) → T (fits f (fin s zero e)) → T (fits f (fin t zero d)) → num (fin t zero d) ≡ num (fin s zero e)
unfolding num
zeros-same f s t e d p q = sym (same_sign f false zero zero e d (zero-fits f s e p) (zero-fits f t d q) (simp zero-mul))

-- the one zero of the sign +
pub one-zero : (f : Format) (e : ℤ) → fits f (fin false zero e) ≡ true → fin false zero e ≡ fin false zero (pos 0)
unfolding fits
one-zero f e p = same_sign f false zero zero e (pos 0) (subst T (sym p) tt) tt (simp zero-mul)

-- equal values, and one sign or a value of 0
unlike-signs : (f : Format) (s t : Bool) (m n : ℕ) (e d : ℤ) → T (fits f (fin s m e)) → T (fits f (fin t n d)) → m * up e * down d ≡ n * up d * down e
    → m * up e * down d ≡ 0 → num (fin t n d) ≡ num (fin s m e)
unlike-signs f s t zero zero e d p q v z = zeros-same f s t e d p q
unlike-signs f s t (suc m) n e d p q v z = absurd (suc-ne-zero m (is_zero (suc m) e d z))
unlike-signs f s t zero (suc n) e d p q v z = absurd (suc-ne-zero n (is_zero (suc n) d e (sym v ∙ z)))

level-same : (f : Format) (s t : Bool) (m n : ℕ) (e d : ℤ) → T (fits f (fin s m e)) → T (fits f (fin t n d)) → m * up e * down d ≡ n * up d * down e
    → T (beq s t || eqb (m * up e * down d) 0) → num (fin t n d) ≡ num (fin s m e)
level-same f true true m n e d p q v h = ap num (sym (same_sign f true m n e d p q v))
level-same f false false m n e d p q v h = ap num (sym (same_sign f false m n e d p q v))
level-same f true false m n e d p q v h = unlike-signs f true false m n e d p q v (eqb→eq _ _ h)
level-same f false true m n e d p q v h = unlike-signs f false true m n e d p q v (eqb→eq _ _ h)

pub eq-same : (f : Format) (x y : Float) → T (fits f x) → T (fits f y) → eq x y ≡ true → num y ≡ num x
unfolding eq
eq-same f nan y p q h = absurd (true≢false (sym h))
eq-same f (inf s) nan p q h = absurd (true≢false (sym h))
eq-same f (inf true) (inf true) p q h = refl
eq-same f (inf false) (inf false) p q h = refl
eq-same f (inf true) (inf false) p q h = absurd (true≢false (sym h))
eq-same f (inf false) (inf true) p q h = absurd (true≢false (sym h))
eq-same f (inf s) (fin t n d) p q h = absurd (true≢false (sym h))
eq-same f (fin s m e) nan p q h = absurd (true≢false (sym h))
eq-same f (fin s m e) (inf t) p q h = absurd (true≢false (sym h))
eq-same f (fin s m e) (fin t n d) p q h =
    let a = eqb (m * up e * down d) (n * up d * down e) in
    let b = beq s t || eqb (m * up e * down d) 0 in
    let g : T (a && b) = rw h tt in
    level-same f s t m n e d p q (eqb→eq _ _ (and_l a b g)) (and_r a b g)

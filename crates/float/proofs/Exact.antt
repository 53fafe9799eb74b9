-- A value that its format holds is its own rounding, so a bound that the format holds bounds a rounded result; a factor up to 1
-- takes a value toward zero, and a factor of 1 leaves it. Assumes nothing.
use Prim.Native.Nat as Nat
use Rattle.std.proofs.Common.{◌≡◌, ℕ, suc, ◌+◌, ◌-◌, ◌*◌, ◌/◌, ◌%◌, ◌^◌, ◌<◌, ◌≤◌, Bool, true, false, cond, ◌&&◌, T, eqb, ltb, leb, ℤ, pos, negsuc, sym, refl, ap, ◌∙◌, le_refl, lt_of_lt_of_le, le_of_suc-le-suc, mul_assoc, mul_comm, mul-le-mul, mul-lt-mul_of_pos_right, one-mul, lt_of_not-le, zero-mul, mul-one, mul_right_comm, not-le_of_lt, arith, ltb→lt, leb→le, pow_pos, pow_mono, pow-add}
use lib.Ieee.{Float, Format, down, emax, fin, fits, hid, inf, le, low, mul, nan, of_bits, prec, round, size, to_bits, top, up}
use lib.Ieee.Bits.{of_bits-to_bits}
use lib.Ieee.Exact.{HasValue, round_exact}
use lib.Ieee.Fits.{and_l, and_r, down_pos, reach, round-fits}
use lib.Ieee.Nearest.{div_same}
use lib.Ieee.Positive.{den, den_pos}
use lib.Ieee.Scale.{finite}
use lib.Pow.{pow-lt}
use Rattle.float.proofs.Order.{Cross, le-trans-float, nn, pp}
use Rattle.float.proofs.Rounding.{Parts, Rounds, mul-anti-r, mul-mono-r, mul-rounds, own-parts, parts-le, parts-of, rounds-mono, zero-value}
use Rattle.float.specs.Notation.{zero, one}

no_more : (a b : ℕ) → 2 ^ a ≤ 2 ^ b → a ≤ b
no_more a b h = le_of_suc-le-suc (lt_of_not-le (λ (g : suc b ≤ a). not-le_of_lt (pow-lt g) h))

back : (a b : ℕ) → a ≤ b → b - a + a ≡ b
back a b h = omega arith

own_value : (f : Format) (s : Bool) (m : ℕ) (e : ℤ) → T (fits f (fin s m e)) → HasValue (round f s (m * up e) (down e)) s (m * up e) (down e)
unfolding fits
own_value f s Nat.zero e h = rw (zero-mul (up e)) (zero-value f s (down e) (down_pos e))
own_value f s (suc m) (pos k) h =
    let a : Bool = eqb (suc m % 2) 1 in
    let b : Bool = ltb (suc m) (2 ^ prec f) in
    let c : Bool = leb 1 (2 ^ low f) in
    let d : Bool = ltb (suc m * 2 ^ k) (2 ^ suc (emax f) * 1) in
    let small : suc m < 2 ^ prec f = ltb→lt (suc m) (2 ^ prec f) (and_r a b (and_l (a && b) c (and_l (a && b && c) d h))) in
    let top : suc m * 2 ^ k < 2 ^ suc (emax f) * 1 = ltb→lt (suc m * 2 ^ k) (2 ^ suc (emax f) * 1) (and_r (a && b && c) d h) in
    let e1 : suc m * 2 ^ (k + low f) ≡ suc m * 2 ^ k * 2 ^ low f = ap (λ (z : ℕ). suc m * z) (pow-add 2 k (low f))
    ∙ sym (mul_assoc (suc m) (2 ^ k) (2 ^ low f)) in
    round_exact f s (suc m * 2 ^ k) 1 (suc m) (k + low f) (pow_pos 0) small
    (rw (e1, pow-add 2 (low f) (suc (emax f)), mul_comm (2 ^ low f) (2 ^ suc (emax f)))
    (mul-lt-mul_of_pos_right (rw (mul-one (2 ^ suc (emax f))) at top) (pow_pos (low f))))
    (sym (mul-one (suc m * 2 ^ (k + low f)) ∙ e1))
own_value f s (suc m) (negsuc k) h =
    let a : Bool = eqb (suc m % 2) 1 in
    let b : Bool = ltb (suc m) (2 ^ prec f) in
    let c : Bool = leb (2 ^ suc k) (2 ^ low f) in
    let d : Bool = ltb (suc m * 1) (2 ^ suc (emax f) * 2 ^ suc k) in
    let small : suc m < 2 ^ prec f = ltb→lt (suc m) (2 ^ prec f) (and_r a b (and_l (a && b) c (and_l (a && b && c) d h))) in
    let fine : suc k ≤ low f = no_more (suc k) (low f) (leb→le (2 ^ suc k) (2 ^ low f) (and_r (a && b) c (and_l (a && b && c) d h))) in
    round_exact f s (suc m * 1) (2 ^ suc k) (suc m) (low f - suc k) (pow_pos (suc k)) small
    (rw (pow-add 2 (low f) (suc (emax f)), mul_comm (2 ^ low f) (2 ^ suc (emax f)))
    (lt_of_lt_of_le (mul-lt-mul_of_pos_right small (pow_pos (low f - suc k))) (mul-le-mul (pow_mono (reach f)) (pow_mono (less (low f) (suc k))))))
    (ap (λ (z : ℕ). z * 2 ^ low f) (mul-one (suc m)) ∙ ap (λ (z : ℕ). suc m * 2 ^ z) (sym (back (suc k) (low f) fine))
    ∙ ap (λ (z : ℕ). suc m * z) (pow-add 2 (low f - suc k) (suc k)) ∙ sym (mul_assoc (suc m) (2 ^ (low f - suc k)) (2 ^ suc k)))
  where
    less : (x y : ℕ) → x - y ≤ x
    less x y = omega arith

own-parts-rounded : (f : Format) (s : Bool) (m : ℕ) (e : ℤ) → T (fits f (fin s m e))
    → Parts (round f s (m * up e) (down e)) (pp (fin s m e)) (nn (fin s m e)) (down e)
own-parts-rounded f s m e h = parts-of (round f s (m * up e) (down e)) s (m * up e) (down e) (own_value f s m e h)

own-rounds : (f : Format) (s : Bool) (m : ℕ) (e : ℤ) → Rounds f (round f s (m * up e) (down e)) (pp (fin s m e)) (nn (fin s m e)) (down e)
own-rounds f false m e = record { sign = false; size = m * up e; is = refl; val = omega arith }
own-rounds f true m e = record { sign = true; size = m * up e; is = refl; val = omega arith }

-- a rounded result is at most y where the exact one is, if the format holds y; and so for `at least`
pub rounds-le : (f : Format) (x y : Float) (p n c : ℕ) → T (finite y) → T (fits f y) → 0 < c → Rounds f x p n c → Cross p n c (pp y) (nn y) (den y) → T (le x y)
rounds-le f x nan p n c q g C r h = absurd q
rounds-le f x (inf t) p n c q g C r h = absurd q
rounds-le f x (fin t m e) p n c q g C r h =
    let y = fin t m e in
    let z = round f t (m * up e) (down e) in
    le-trans-float x z y (rounds-mono f x z p n c (pp y) (nn y) (den y) C (down_pos e) r (own-rounds f t m e) h)
    (parts-le z y (pp y) (nn y) (den y) (pp y) (nn y) (den y) (down_pos e) (down_pos e) (own-parts-rounded f t m e g) (own-parts y tt) (le_refl _))

pub rounds-ge : (f : Format) (x y : Float) (p n c : ℕ) → T (finite y) → T (fits f y) → 0 < c → Rounds f x p n c → Cross (pp y) (nn y) (den y) p n c → T (le y x)
rounds-ge f x nan p n c q g C r h = absurd q
rounds-ge f x (inf t) p n c q g C r h = absurd q
rounds-ge f x (fin t m e) p n c q g C r h =
    let y = fin t m e in
    let z = round f t (m * up e) (down e) in
    le-trans-float y z x
    (parts-le y z (pp y) (nn y) (den y) (pp y) (nn y) (den y) (down_pos e) (down_pos e) (own-parts y tt) (own-parts-rounded f t m e g) (le_refl _))
    (rounds-mono f z x (pp y) (nn y) (den y) p n c (down_pos e) C (own-rounds f t m e) r h)

times-one-le : (p n c : ℕ) → Cross (p * 1 + n * 0) (p * 0 + n * 1) (c * 1) p n c
times-one-le p n c = omega arith

times-one-ge : (p n c : ℕ) → Cross p n c (p * 1 + n * 0) (p * 0 + n * 1) (c * 1)
times-one-ge p n c = omega arith

pub mul-one-le : (f : Format) (x : Float) → T (finite x) → T (fits f x) → T (le (mul f x one) x)
mul-one-le f x p g =
    rounds-le f (mul f x one) x (pp x * 1 + nn x * 0) (pp x * 0 + nn x * 1) (den x * 1) p g (rw (mul-one (den x)) (den_pos x))
    (mul-rounds f x one p tt) (times-one-le (pp x) (nn x) (den x))

pub mul-one-ge : (f : Format) (x : Float) → T (finite x) → T (fits f x) → T (le x (mul f x one))
mul-one-ge f x p g =
    rounds-ge f (mul f x one) x (pp x * 1 + nn x * 0) (pp x * 0 + nn x * 1) (den x * 1) p g (rw (mul-one (den x)) (den_pos x))
    (mul-rounds f x one p tt) (times-one-ge (pp x) (nn x) (den x))

-- a factor up to 1 takes a value toward zero
pub mul-shrinks : (f : Format) (x a : Float) → T (finite x) → T (fits f x) → T (finite a) → T (le zero x) → T (le a one) → T (le (mul f x a) x)
mul-shrinks f x a p g q o h = le-trans-float (mul f x a) (mul f x one) x (mul-mono-r f x a one p q tt o h) (mul-one-le f x p g)

pub mul-shrinks-up : (f : Format) (x a : Float) → T (finite x) → T (fits f x) → T (finite a) → T (le x zero) → T (le a one) → T (le x (mul f x a))
mul-shrinks-up f x a p g q o h = le-trans-float x (mul f x one) (mul f x a) (mul-one-ge f x p g) (mul-anti-r f x one a p tt q o h)

-- a value that is m * 2 ^ e with the sign s has the bits that are written for it, so if the format holds both they are the same data
same_bits : (f : Format) (x : Float) (s : Bool) (m : ℕ) (e : ℤ) → HasValue x s (m * up e) (down e) → to_bits f x ≡ to_bits f (fin s m e)
unfolding to_bits
same_bits f nan s m e v = elim v [ ]
same_bits f (inf _) s m e v = elim v [ ]
same_bits f (fin t n d) s m e v =
    let bits : Bool → ℕ → ℕ = λ u a. cond u (top f) 0 + (size a - prec f) * hid f + a / 2 ^ (size a - prec f) in
    let l = 2 ^ low f in
    ap (λ (u : Bool). bits u (n * up d * l / down d)) v.0
    ∙ ap (bits s) (div_same (n * up d * l) (down d) (m * up e * l) (down e) (down_pos d) (down_pos e)
    (mul_right_comm (n * up d) l (down e) ∙ ap (λ (a : ℕ). a * l) v.1 ∙ mul_right_comm (m * up e) (down d) l))

pub round-held : (f : Format) (s : Bool) (m : ℕ) (e : ℤ) → T (fits f (fin s m e)) → round f s (m * up e) (down e) ≡ fin s m e
round-held f s m e h =
    let x = round f s (m * up e) (down e) in
    sym (of_bits-to_bits f x (round-fits f s (m * up e) (down e))) ∙ ap (of_bits f) (same_bits f x s m e (own_value f s m e h)) ∙ of_bits-to_bits f (fin s m e) h

-- 1 times a value that the format holds is that value as data, NaN and infinities too
pub one-times : (f : Format) (x : Float) → T (fits f x) → mul f one x ≡ x
unfolding mul
one-times f nan h = refl
one-times f (inf false) h = refl
one-times f (inf true) h = refl
one-times f (fin false m e) h = rw (one-mul (m * up e), one-mul (down e)) (round-held f false m e h)
one-times f (fin true m e) h = rw (one-mul (m * up e), one-mul (down e)) (round-held f true m e h)

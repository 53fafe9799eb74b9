-- The P cases that leave a number open hold of every number: a zero times it is a zero. Assumes nothing.
use Prim.Native.Nat.{◌*◌, ℕ}
use lib.Dec.{T}
use lib.Ieee.{Float, Format, add, binary32, div, down, fin, inf, le, lt, mul, nan, ne, neg, of_bits, of_int, round, sub, to_signed, unlike, up}
use lib.Ieee.Scale.{finite}
use lib.IntN.{pos}
use mathlib.Core.Bool.{Bool, false, not, true}
use mathlib.Core.Path.{◌∙◌, ◌≡◌, ap, refl}
use native.Mathlib.Omega.{arith}
use Rattle.aero.specs.Coefficients.{exponent, hold, stall_blend}
use Rattle.book.specs.Equations as book
use Rattle.fixed_wing.specs.declared.AeroCoefficients.{AeroCoefficients}
use Rattle.float.proofs.Interval.{within-finite}
use Rattle.float.proofs.Rounding.{add-mono, sub-mono}
use Rattle.float.proofs.Zeros.{round-zero}
use Rattle.float.specs.Interval.{Within}
use Rattle.float.specs.Notation.{◌⊕◌, ◌⊖◌, ◌⊗◌, ◌⊘◌, abs, clamp, one, rounded, zero}
use Rattle.float.specs.Same.{num}
use Rattle.lag.specs.Lag.{approach_of, approach_saturated, saturated}
use Rattle.libm.specs.Exp.{core, exp_of, exp_series, horner, near_down, near_up, poly, rest, binary_exponent}
use Rattle.cases.specs.Wide.{BluntBlend, FullThrottleStays}

-- ---- a zero times a finite number is a zero
is_minus : Float → Bool
is_minus nan = false
is_minus (inf s) = s
is_minus (fin s m e) = s

none : (a b : ℕ) → 0 * a * b ≡ 0
none a b = omega arith

zero-times : (f : Format) (s : Bool) (x : Float) → T (finite x) → mul f (fin s 0 (pos 0)) x ≡ fin (unlike s (is_minus x)) 0 (pos 0)
unfolding mul is_minus
zero-times f s nan h = absurd h
zero-times f s (inf t) h = absurd h
zero-times f s (fin t n d) h =
    ap (λ (a : ℕ). round f (unlike s t) a (down (pos 0) * down d)) (none (up (pos 0)) (n * up d)) ∙ round-zero f (unlike s t) (down (pos 0) * down d)

-- ---- +infinity, running 1
one-and-zero : (t : Bool) → num (add binary32 one (fin t 0 (pos 0))) ≡ one
unfolding add num
one-and-zero true = refl
one-and-zero false = refl

pub full-throttle-stays : FullThrottleStays
unfolding approach_saturated approach_of saturated clamp ne lt sub num
full-throttle-stays factor w =
    record { same = rw (zero-times binary32 false factor (within-finite zero one factor tt tt w)) (one-and-zero (unlike false (is_minus factor))) }

-- ---- sharpness 0
exponent-none : (t : Bool) → exponent (fin t 0 (pos 0)) ≡ one
unfolding exponent hold clamp exp_of core poly exp_series horner rest binary_exponent near_up near_down
    abs add sub mul div neg lt le ne round of_bits of_int to_signed
exponent-none true = refl
exponent-none false = refl

apart : (alpha stall : Float) → Within zero (rounded 16 10) stall → Within (neg (rounded 4 1)) (rounded 4 1) alpha → T (finite (alpha ⊖ stall))
unfolding round neg sub
apart alpha stall v w =
    let p = within-finite _ _ stall tt tt v in
    let q = within-finite _ _ alpha tt tt w in
    within-finite (neg (rounded 4 1) ⊖ rounded 16 10) (rounded 4 1 ⊖ zero) (alpha ⊖ stall) tt tt
    (record {
      at_least = sub-mono binary32 _ alpha _ stall tt q tt p w.at_least v.at_most;
      at_most = sub-mono binary32 alpha _ stall _ q tt p tt w.at_most v.at_least;
    })

together : (alpha stall : Float) → Within zero (rounded 16 10) stall → Within (neg (rounded 4 1)) (rounded 4 1) alpha → T (finite (alpha ⊕ stall))
unfolding round neg add
together alpha stall v w =
    let p = within-finite _ _ stall tt tt v in
    let q = within-finite _ _ alpha tt tt w in
    within-finite (neg (rounded 4 1) ⊕ zero) (rounded 4 1 ⊕ rounded 16 10) (alpha ⊕ stall) tt tt
    (record {
      at_least = add-mono binary32 _ alpha _ stall tt q tt p w.at_least v.at_least;
      at_most = add-mono binary32 alpha _ stall _ q tt p tt w.at_most v.at_most;
    })

-- the blend of two exponentials that are 1
abbrev blended : Float
blended = (one ⊕ one ⊕ one) ⊘ ((one ⊕ one) ⊗ (one ⊕ one))

blend-of-ones : (c : AeroCoefficients) (alpha : Float)
    → exponent (neg c.stall_sharpness ⊗ (alpha ⊖ c.alpha_stall_rad)) ≡ one
    → exponent (c.stall_sharpness ⊗ (alpha ⊕ c.alpha_stall_rad)) ≡ one
    → stall_blend c alpha ≡ blended
unfolding stall_blend book.blend exponent round
blend-of-ones c alpha h k =
    let by : Float → Float → Float = λ p n. (one ⊕ p ⊕ n) ⊘ ((one ⊕ p) ⊗ (one ⊕ n)) in
    ap (λ p. by p (exponent (c.stall_sharpness ⊗ (alpha ⊕ c.alpha_stall_rad)))) h ∙ ap (by one) k

three_quarters : blended ≡ rounded 75 100
unfolding add mul div round
three_quarters = refl

no-exponent : (s : Bool) (x y : Float) → y ≡ fin s 0 (pos 0) → T (finite x) → exponent (y ⊗ x) ≡ one
no-exponent s x y e h = rw (e, zero-times binary32 s x h) (exponent-none (unlike s (is_minus x)))

pub blunt-blend : BluntBlend
blunt-blend c alpha s e v w =
    let stall = c.alpha_stall_rad in
    blend-of-ones c alpha
    (no-exponent (not s) (alpha ⊖ stall) _ (unfold neg in rw e) (apart alpha stall v w))
    (no-exponent s (alpha ⊕ stall) _ e (together alpha stall v w))
    ∙ three_quarters

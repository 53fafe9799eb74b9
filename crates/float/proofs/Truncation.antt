-- Cutting a float to an integer keeps the order, since dividing does, and a zero's sign does not matter to it. Assumes nothing.
use Rattle.std.proofs.Common.{◌≡◌, ℕ, zero, suc, ◌+◌, ◌-◌, ◌*◌, ◌/◌, ◌^◌, ◌<◌, ◌≤◌, min, Bool, true, false, T, ℤ, pos, neg_ℤ, sym, refl, ap, ◌∙◌, inl, inr, zero-le, le_refl, le_of_suc-le-suc, eq-zero-or-pos, mul-pos, zero-mul, not-le_of_lt, arith, le→leb}
use lib.Ieee.{Float, binary32, down, fin, inf, le, lt, nan, of_int, to_signed, up}
use lib.Ieee.Bits.{is_true}
use lib.Ieee.Fits.{down_pos}
use lib.Ieee.Nearest.{div_mono}
use lib.Ieee.Scale.{finite}
use lib.Signed.{le_z}
use native.Mathlib.Nat.{zero-div}
use Rattle.float.proofs.Order.{le→cross}
use Rattle.float.specs.Promises.{whole_part}
use Rattle.float.specs.Same.{Rel, num}

min-mono : (a b c : ℕ) → a ≤ b → min a c ≤ min b c
min-mono a b c h = omega arith

min-zero : (c : ℕ) → min 0 c ≡ 0
min-zero c = omega arith

neg-below : (a b : ℕ) → T (le_z (neg_ℤ (pos a)) (pos b))
neg-below zero b = le→leb 0 b zero-le
neg-below (suc a) b = tt

neg-anti : (a b : ℕ) → b ≤ a → T (le_z (neg_ℤ (pos a)) (neg_ℤ (pos b)))
neg-anti zero zero h = le→leb 0 0 (le_refl 0)
neg-anti zero (suc b) h = absurd (none b h)
  where
    none : (b : ℕ) → suc b ≤ 0 → ⊥
    none b h = omega arith
neg-anti (suc a) zero h = tt
neg-anti (suc a) (suc b) h = le→leb b a (le_of_suc-le-suc h)

both-none : (a b c d : ℕ) → 0 < c → 0 < d → a * d + b * c ≤ 0 → (a ≡ 0) × (b ≡ 0)
both-none a b c d C D h = (none a d D (omega arith), none b c C (omega arith))
  where
    none : (k z : ℕ) → 0 < z → k * z ≤ 0 → k ≡ 0
    none k z Z g = elim (eq-zero-or-pos k) [ inl e ↦ e | inr l ↦ absurd (not-le_of_lt (mul-pos l Z) g) ]

pub to_signed-mono : (h : ℕ) (x y : Float) → T (finite x) → T (finite y) → T (le x y) → T (le_z (to_signed h x) (to_signed h y))
unfolding to_signed
to_signed-mono h nan y p q l = absurd p
to_signed-mono h (inf s) y p q l = absurd p
to_signed-mono h (fin s m e) nan p q l = absurd q
to_signed-mono h (fin s m e) (inf t) p q l = absurd q
to_signed-mono h (fin false m e) (fin false n d) p q l =
    le→leb (min (m * up e / down e) (2 ^ h - 1)) (min (n * up d / down d) (2 ^ h - 1)) (min-mono (m * up e / down e) (n * up d / down d) (2 ^ h - 1)
    (div_mono (m * up e) (down e) (n * up d) (down d) (down_pos e) (down_pos d) (omega (arith, le→cross (fin false m e) (fin false n d) tt tt l))))
to_signed-mono h (fin true m e) (fin false n d) p q l = neg-below (min (m * up e / down e) (2 ^ h)) (min (n * up d / down d) (2 ^ h - 1))
to_signed-mono h (fin true m e) (fin true n d) p q l =
    neg-anti (min (m * up e / down e) (2 ^ h)) (min (n * up d / down d) (2 ^ h)) (min-mono (n * up d / down d) (m * up e / down e) (2 ^ h)
    (div_mono (n * up d) (down d) (m * up e) (down e) (down_pos d) (down_pos e) (omega (arith, le→cross (fin true m e) (fin true n d) tt tt l))))
to_signed-mono h (fin false m e) (fin true n d) p q l =
    let z = both-none (m * up e) (n * up d) (down e) (down d) (down_pos e) (down_pos d) (omega (arith, le→cross (fin false m e) (fin true n d) tt tt l)) in
    rw (z.0, z.1, zero-div (down e), zero-div (down d), min-zero (2 ^ h - 1), min-zero (2 ^ h)) tt

-- ---- the sign of a zero
none-cut : (h : ℕ) (s : Bool) (e : ℤ) → to_signed h (fin s zero e) ≡ pos 0
unfolding to_signed
none-cut h true e = rw (zero-mul (up e), zero-div (down e), min-zero (2 ^ h))
none-cut h false e = rw (zero-mul (up e), zero-div (down e), min-zero (2 ^ h - 1))

to_signed-num : (h : ℕ) (x : Float) → to_signed h (num x) ≡ to_signed h x
unfolding num
to_signed-num h nan = refl
to_signed-num h (inf s) = refl
to_signed-num h (fin s zero e) = none-cut h false e ∙ sym (none-cut h s e)
to_signed-num h (fin s (suc m) e) = refl

pub r-truncate : {x x' : Float} (h : ℕ) → Rel false x x' → to_signed h x' ≡ to_signed h x
r-truncate {x} {x'} h r = sym (to_signed-num h x') ∙ ap (to_signed h) r.same ∙ to_signed-num h x

-- ---- a float without its fraction, as the code holds it
pub whole_is : (x : Float) → T (lt (fin true 1 (pos 24)) x) → T (lt x (fin false 1 (pos 24))) → whole_part x ≡ of_int binary32 (to_signed 63 x)
unfolding whole_part
whole_is x a b = rw (is_true (lt (fin true 1 (pos 24)) x) a, is_true (lt x (fin false 1 (pos 24))) b)

-- Four bytes put in the place of four are four writes, one after the other. Assumes nothing.
use Rattle.std.proofs.Common.{◌≡◌, ℕ, zero, suc, ◌+◌, ◌-◌, ◌≤◌, List, [], ◌∷◌, length, refl, ap, ◌∙◌, arith, slice_set}
use native.Mathlib.Numerals.{unary_clauses}
use borrow.Rule.Slice.PartMut.{put_mid}

by_index :
    {X : Type 0} (a : ℕ) (xs : List X) (p q r s : X) → a + 4 ≤ length xs
    → put_mid a 4 xs (p ∷ q ∷ r ∷ s ∷ []) ≡ slice_set (slice_set (slice_set (slice_set xs a p) (suc a) q) (suc (suc a)) r) (suc (suc (suc a))) s
by_index zero (w ∷ x ∷ y ∷ z ∷ xs) p q r s h = refl
by_index zero (w ∷ x ∷ y ∷ []) p q r s h = absurd (omega arith)
by_index zero (w ∷ x ∷ []) p q r s h = absurd (omega arith)
by_index zero (w ∷ []) p q r s h = absurd (omega arith)
by_index zero [] p q r s h = absurd (omega arith)
by_index (suc a) [] p q r s h = absurd (omega arith)
by_index (suc a) (x ∷ xs) p q r s h = ap (x ∷◌) (by_index a xs p q r s (omega arith))

pub four-writes :
    {X : Type 0} (a : ℕ) (xs ys : List X) (p q r s : X) → a + 4 ≤ length xs → ys ≡ p ∷ q ∷ r ∷ s ∷ []
    → put_mid a (a + 4 - a) xs ys ≡ slice_set (slice_set (slice_set (slice_set xs a p) (a + 1) q) (a + 2) r) (a + 3) s
four-writes a xs ys p q r s h e = ap (put_mid a (a + 4 - a) xs) e ∙ ap (λ (k : ℕ). put_mid a k xs (p ∷ q ∷ r ∷ s ∷ [])) (four a) ∙ simp unary_clauses (by_index a xs p q r s h)
  where
    four : (a : ℕ) → a + 4 - a ≡ 4
    four a = omega arith

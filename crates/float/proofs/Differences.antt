-- The difference of two naturals, as an exponent is written (`minus`): by which of them is larger, shifted, and with a natural added. Assumes nothing.
use Rattle.std.proofs.Common.{◌≡◌, ℕ, suc, ◌+◌, ◌-◌, ◌<◌, ◌≤◌, Bool, true, false, cond, not, T, ltb, leb, pos, negsuc, ◌+ℤ◌, sym, ap, ◌∙◌, arith, le→leb, ltb→lt, leb→le, nltb→le}
use lib.Arith.{lt→nleb}
use lib.Dec.{nleb→lt}
use lib.Ieee.{minus}
use lib.Ieee.Bits.{is_false, is_true}
use lib.IntN.{sub_ℕ}

pub minus-up : (a l : ℕ) → l ≤ a → minus a l ≡ pos (a - l)
minus-up a l h = ap (λ (t : Bool). cond t (pos (a - l)) (negsuc (l - suc a))) (is_true (leb l a) (le→leb l a h))

pub minus-down : (a l : ℕ) → a < l → minus a l ≡ negsuc (l - suc a)
minus-down a l h = ap (λ (t : Bool). cond t (pos (a - l)) (negsuc (l - suc a))) (is_false (leb l a) (lt→nleb l a h))

pub minus-same : (a l b m : ℕ) → a + m ≡ b + l → minus a l ≡ minus b m
minus-same a l b m e = go (leb l a) (leb→le l a) (nleb→lt l a)
  where
    go : (t : Bool) → (T t → l ≤ a) → (T (not t) → a < l) → cond t (pos (a - l)) (negsuc (l - suc a)) ≡ minus b m
    go true h k = let g = h tt in ap pos (omega arith) ∙ sym (minus-up b m (omega arith))
    go false h k = let g = k tt in ap negsuc (omega arith) ∙ sym (minus-down b m (omega arith))

pub sub-minus : (a b : ℕ) → sub_ℕ a b ≡ minus a b
sub-minus a b = go (ltb a b) (ltb→lt a b) (nltb→le a b)
  where
    go : (t : Bool) → (T t → a < b) → (T (not t) → b ≤ a) → cond t (negsuc (b - suc a)) (pos (a - b)) ≡ minus a b
    go true h k = sym (minus-down a b (h tt))
    go false h k = sym (minus-up a b (k tt))

pub minus_plus : (a l k : ℕ) → minus a l +ℤ pos k ≡ minus (a + k) l
minus_plus a l k = go (leb l a) (leb→le l a) (nleb→lt l a)
  where
    go : (t : Bool) → (T t → l ≤ a) → (T (not t) → a < l) → cond t (pos (a - l)) (negsuc (l - suc a)) +ℤ pos k ≡ minus (a + k) l
    go true h g = let u = h tt in ap pos (omega arith) ∙ sym (minus-up (a + k) l (omega arith))
    go false h g = let u = g tt in sub-minus k (suc (l - suc a)) ∙ minus-same k (suc (l - suc a)) (a + k) l (omega arith)

-- A list by its indexes has their number, and at each of them the function's value. Assumes nothing.
use Rattle.std.proofs.Common.{◌≡◌, ℕ, zero, suc, ◌+◌, ◌<◌, List, length, get_or, sym, refl, ap, ◌∙◌, zero-add, arith, ext_get_or}
use Rattle.float.specs.Lists.{list_from, list_of}

length-list_from : {X : Type 0} (f : ℕ → X) (i n : ℕ) → length (list_from f i n) ≡ n
unfolding list_from
length-list_from f i zero = refl
length-list_from f i (suc n) = ap suc (length-list_from f (suc i) n)

list_from-at : {X : Type 0} (d : X) (f : ℕ → X) (i n k : ℕ) → k < n → get_or (list_from f i n) k d ≡ f (i + k)
unfolding list_from
list_from-at d f i zero k l = absurd (none k l)
  where
    none : (k : ℕ) → k < 0 → ⊥
    none k l = omega arith
list_from-at d f i (suc n) zero l = ap f (omega arith)
list_from-at d f i (suc n) (suc k) l = list_from-at d f (suc i) n k (omega (arith, l)) ∙ ap f (shift i k)
  where
    shift : (i k : ℕ) → suc i + k ≡ i + suc k
    shift i k = omega arith

pub length-list_of : {X : Type 0} (f : ℕ → X) (n : ℕ) → length (list_of f n) ≡ n
unfolding list_of
length-list_of f n = length-list_from f 0 n

pub list_of-at : {X : Type 0} (d : X) (f : ℕ → X) (n k : ℕ) → k < n → get_or (list_of f n) k d ≡ f k
unfolding list_of
list_of-at d f n k l = list_from-at d f 0 n k l ∙ ap f (zero-add k)

-- lists that are equal, as computed once, have the same value at each index
pub same_at : {X : Type 0} (d : X) (f g : ℕ → X) (n : ℕ) → list_of f n ≡ list_of g n → (k : ℕ) → k < n → f k ≡ g k
same_at d f g n e k l = sym (list_of-at d f n k l) ∙ ap (λ (xs : List _). get_or xs k d) e ∙ list_of-at d g n k l

-- a list by its own elements
pub list_of-again : {X : Type 0} (d : X) (xs : List X) (n : ℕ) → length xs ≡ n → list_of (λ (k : ℕ). get_or xs k d) n ≡ xs
list_of-again d xs n e =
    ext_get_or d _ xs (length-list_of _ n ∙ sym e) (λ k l. list_of-at d (λ (j : ℕ). get_or xs j d) n k (omega (arith, l, length-list_of (λ (j : ℕ). get_or xs j d) n)))

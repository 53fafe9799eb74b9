-- What `map` and `from_fn` make of a closure that gives a function's values and stays as it is: the list of these values. Assumes nothing.
use Prim.Native.Nat.{◌+◌, ◌<◌, ◌≤◌, suc, zero, ℕ}
use denote.Param.Members.{Mut}
use lib.ListN.{get_or, get_or-map, length, length-map}
use lib.Seq.{ext_get_or}
use mathlib.Core.List.{List, map}
use mathlib.Core.Logic.{◌⊎◌, inl, inr}
use mathlib.Core.Path.{◌∙◌, ◌≡◌, ap, subst, sym}
use native.Mathlib.Nat.{eq-or-lt_of_le}
use native.Mathlib.Omega.{arith}
use Rattle.std.specs.Array.{IsFromFnResult, IsFromFnResultFrom, IsMapOf, MapsFrom}
use Rattle.std.specs.Iterator.{ActsAs}
use Rattle.float.proofs.Lists.{length-list_of, list_of-at}
use Rattle.float.specs.Lists.{list_of}

module _ {F A B : Type 0} (g : Mut F (A × Unit {0}) B) (h : A → B) where
  maps_at : (n i : ℕ) (f : F) (xs : List A) (ys : List B) → ActsAs g f h → MapsFrom g f xs ys i n
      → (k : ℕ) → i ≤ k → k < i + n → (d : A) (e : B) → get_or ys k e ≡ h (get_or xs k d)
  maps_at zero i f xs ys act m k a b d e = absurd (none k a b)
    where
      none : (k : ℕ) → i ≤ k → k < i + 0 → ⊥
      none k a b = omega arith
  maps_at (suc n) i f xs ys act m k a b d e =
      let act_on : ActsAs g m.0 h = subst (λ (p : F). ActsAs g p h) (sym (act m.1 m.2 m.0 m.5).0) act in
      go (λ w. maps_at n (i + 1) m.0 xs ys act_on m.6 k (omega arith) (omega arith) d e) (eq-or-lt_of_le a)
    where
      go : (i < k → get_or ys k e ≡ h (get_or xs k d)) → (i ≡ k) ⊎ (i < k) → get_or ys k e ≡ h (get_or xs k d)
      go rest (inl w) = subst (λ j. get_or ys j e ≡ h (get_or xs j d)) w (m.4.1 e ∙ (act m.1 m.2 m.0 m.5).1 ∙ ap h (sym (m.3.1 d)))
      go rest (inr w) = rest w

  pub map_same : (d : A) (f : F) (xs : List A) (ys : List B) (n : ℕ) → ActsAs g f h → length xs ≡ n → IsMapOf g f xs ys n → ys ≡ map h xs
  map_same d f xs ys n act long m =
      ext_get_or (h d) ys (map h xs) (m.long ∙ sym (length-map xs h ∙ long))
      (λ k l. maps_at n 0 f xs ys act m.each k (omega arith) (omega (arith, l, m.long)) d (h d) ∙ sym (get_or-map h xs k d))

module _ {F B : Type 0} (g : Mut F (ℕ × Unit {0}) B) (h : ℕ → B) where
  made_at : (n i : ℕ) (f : F) (ys : List B) → ActsAs g f h → IsFromFnResultFrom g f ys i n → (k : ℕ) → i ≤ k → k < i + n → (e : B) → get_or ys k e ≡ h k
  made_at zero i f ys act m k a b e = absurd (none k a b)
    where
      none : (k : ℕ) → i ≤ k → k < i + 0 → ⊥
      none k a b = omega arith
  made_at (suc n) i f ys act m k a b e =
      let act_on : ActsAs g m.0 h = subst (λ (p : F). ActsAs g p h) (sym (act i m.1 m.0 m.3).0) act in
      go (λ w. made_at n (i + 1) m.0 ys act_on m.4 k (omega arith) (omega arith) e) (eq-or-lt_of_le a)
    where
      go : (i < k → get_or ys k e ≡ h k) → (i ≡ k) ⊎ (i < k) → get_or ys k e ≡ h k
      go rest (inl w) = subst (λ j. get_or ys j e ≡ h j) w (m.2.1 e ∙ (act i m.1 m.0 m.3).1)
      go rest (inr w) = rest w

  pub made_same : (d : B) (f : F) (ys : List B) (n : ℕ) → ActsAs g f h → IsFromFnResult g f ys n → ys ≡ list_of h n
  made_same d f ys n act m =
      ext_get_or d ys (list_of h n) (m.long ∙ sym (length-list_of h n))
      (λ k l. made_at n 0 f ys act m.each k (omega arith) (omega (arith, l, m.long)) d ∙ sym (list_of-at d h n k (omega (arith, l, m.long))))

-- A loop over a trace's ticks, by a left fold: `on x t` is what comes of x by the tick t. Assumes nothing.
use Prim.Native.Nat.{◌+◌, ◌≤◌, suc, zero, ℕ}
use mathlib.Core.List.{List, [], ◌++◌, ◌∷◌, foldl, foldl-append}
use mathlib.Core.Path.{◌∙◌, ◌≡◌, ap, sym}
use native.Mathlib.Nat.{le_antisymm}
use native.Mathlib.Numerals.{add-one}
use native.Mathlib.Omega.{arith}
use Rattle.flight.specs.declared.Tick.{Tick}
use Rattle.trace.specs.Trace.{tick_at, tick_count, ticks_from, ticks_of}

-- one tick more
ticks-more : (s : List ℕ) (i n k : ℕ) → k ≡ i + n → ticks_from s i (suc n) ≡ ticks_from s i n ++ (tick_at s k ∷ [])
unfolding ticks_from
ticks-more s i zero k e = ap (λ (j : ℕ). tick_at s j ∷ []) (omega arith)
ticks-more s i (suc n) k e = ap (λ (ts : List Tick). tick_at s i ∷ ts) (ticks-more s (suc i) n k (omega arith))

module _ {X : Type 0} (on : X → Tick → X) (x : X) (s : List ℕ) where
  -- what comes of x by the first n ticks
  abbrev pub after : ℕ → X
  after n = foldl on x (ticks_from s 0 n)

  -- an iteration of the loop: tick i on what comes by the first i is what comes by the first i + 1
  pub after_more : (i : ℕ) → on (after i) (tick_at s i) ≡ after (i + 1)
  after_more i =
      sym (foldl-append on x (ticks_from s 0 i) (tick_at s i ∷ []))
      ∙ sym (ap (foldl on x) (ticks-more s 0 i i (omega arith)))
      ∙ ap after (sym (add-one i))

  -- and its end
  pub after-all : (i : ℕ) → i ≤ tick_count s → tick_count s ≤ i → after i ≡ foldl on x (ticks_of s)
  unfolding ticks_of
  after-all i l m = ap after (le_antisymm l m)

-- Where the density lies, for every height, rounding included: between two rows it never leaves their two densities, and nowhere
-- does it grow with height. Each operation of the formula keeps or reverses
-- the order, and at the step's two ends the formula gives the two rows. Assumes nothing.
use Prim.Native.Nat as Nat
use Prim.Native.Nat.{◌<◌, ◌≤◌, suc, zero-le, ℕ}
use lib.Dec.{T, T_not, leb, leb→le, nleb→lt}
use lib.Ieee.{Float, add, binary32, div, fin, fits, inf, is_nan, le, lt, mul, nan, neg, of_int, round, sub}
use lib.Ieee.Scale.{finite}
use lib.IntN.{negsuc, ℤ}
use mathlib.Core.Bool.{Bool, false, not, true}
use mathlib.Core.List.{List, [], ◌∷◌}
use mathlib.Core.Logic.{◌⊎◌, inl, inr}
use mathlib.Core.Path.{◌∙◌, ◌≡◌, ap, refl, subst, sym}
use native.Mathlib.Nat.{eq-or-lt_of_le, le_refl}
use native.Mathlib.Omega.{arith}
use Rattle.float.proofs.Interval.{div-in, within-finite, within_wider}
use Rattle.float.proofs.Order.{finite-between, le-self, le-trans-float, le→not-lt, lt→le}
use Rattle.float.proofs.Rounding.{add-mono-r, divide-mono, mul-anti-r, sub-mono}
use Rattle.float.proofs.Tests.{All, all→, allb, every_below, every_below→}
use Rattle.float.proofs.Zeros.{nonzero, zero-is-zero, zero-not-below}
use Rattle.float.specs.Interval.{Within}
use Rattle.float.specs.Notation.{◌⊖◌, ◌⊗◌, ◌⊘◌, zero, one, rounded}
use Rattle.float.specs.Same.{flip}
use Rattle.air.proofs.Rows.{between_ends, densities-fall, height-finite, heights-climb, over-row, rise, row_inside, step, under_next}
use Rattle.air.specs.Density.{between, densities, density_at, density_of, height_of, last_row, row_count, row_down_from, ten_thousandths}

-- ---- within one step the density falls
module _ (i : ℕ) (l : i < last_row) where
  abbrev share : Float → Float
  share h = (h ⊖ height_of i) ⊘ rounded 100 1

  -- a height of the step
  record OnStep (h : Float) : Type 0 where
    pub over : T (le (height_of i) h)
    pub under : T (le h (height_of (suc i)))

  on-finite : (h : Float) → OnStep h → T (finite h)
  on-finite h s =
      finite-between (height_of i) h (height_of (suc i)) (height-finite i (omega (arith, l))) (height-finite (suc i) (omega (arith, l))) s.over
      s.under

  over-in : (h : Float) → OnStep h → Within zero (rounded 100 1) (h ⊖ height_of i)
  over-in h s =
      let t = step i l in
      let H = height-finite i (omega (arith, l)) in
      record {
        at_least =
            le-trans-float zero (height_of i ⊖ height_of i) (h ⊖ height_of i) t.at-foot
            (sub-mono binary32 (height_of i) h (height_of i) (height_of i) H (on-finite h s) H H s.over (le-self (height_of i) H));
        at_most =
            le-trans-float (h ⊖ height_of i) (height_of (suc i) ⊖ height_of i) (rounded 100 1)
            (sub-mono binary32 h (height_of (suc i)) (height_of i) (height_of i) (on-finite h s) (height-finite (suc i) (omega (arith, l))) H H
            s.under (le-self (height_of i) H)) t.at_top;
      }

  share_in : (h : Float) → OnStep h → Within zero one (share h)
  unfolding div round le fits
  share_in h s = div-in binary32 (rounded 100 1) (h ⊖ height_of i) (rounded 100 1) (rounded 100 1) tt tt tt tt (over-in h s) tt

  share-finite : (h : Float) → OnStep h → T (finite (share h))
  share-finite h s = within-finite zero one (share h) tt tt (share_in h s)

  share-mono : (x y : Float) → OnStep x → OnStep y → T (le x y) → T (le (share x) (share y))
  share-mono x y s t k =
      let H = height-finite i (omega (arith, l)) in
      let above : (h : Float) → OnStep h → T (finite (h ⊖ height_of i)) = λ h s. within-finite zero (rounded 100 1) (h ⊖ height_of i) tt
      (unfold round in tt) (over-in h s) in
      divide-mono binary32 (x ⊖ height_of i) (y ⊖ height_of i) (rounded 100 1) (rounded 100 1) (above x s) (above y t) (unfold round in tt)
      (unfold round in tt) (over-in x s).at_least (over-in y t).at_least
      (sub-mono binary32 x y (height_of i) (height_of i) (on-finite x s) (on-finite y t) H H k (le-self (height_of i) H)) (unfold round le in tt)

  part-finite : (h : Float) → OnStep h → T (finite (rise i ⊗ share h))
  part-finite h s =
      let t = step i l in
      finite-between (rise i ⊗ one) (rise i ⊗ share h) (rise i ⊗ zero) t.of-whole t.of_none
      (mul-anti-r binary32 (rise i) one (share h) t.of-rise tt (share-finite h s) t.not-up (share_in h s).at_most)
      (mul-anti-r binary32 (rise i) (share h) zero t.of-rise (share-finite h s) tt t.not-up (share_in h s).at_least)

  step_falls : (x y : Float) → OnStep x → OnStep y → T (le x y) → T (le (between i y) (between i x))
  unfolding between
  step_falls x y s t k =
      let r = step i l in
      add-mono-r binary32 (density_of i) (rise i ⊗ share y) (rise i ⊗ share x) r.here (part-finite y t) (part-finite x s)
      (mul-anti-r binary32 (rise i) (share y) (share x) r.of-rise (share-finite y t) (share-finite x s) r.not-up (share-mono x y s t k))

  step_in : (h : Float) → OnStep h → Within (density_of (suc i)) (density_of i) (between i h)
  step_in h s =
      let c = (step i l).climbs in
      let foot : OnStep (height_of i) = record { over = le-self (height_of i) (height-finite i (omega (arith, l))); under = c } in
      let top : OnStep (height_of (suc i)) = record { over = c; under = le-self (height_of (suc i)) (height-finite (suc i) (omega (arith, l))) } in
      record {
        at_least =
            le-trans-float (density_of (suc i)) (between i (height_of (suc i))) (between i h) (step i l).ends
            (step_falls h (height_of (suc i)) s top s.under);
        at_most = le-trans-float (between i h) (between i (height_of i)) (density_of i) (step_falls (height_of i) h foot s s.over) (step i l).starts;
      }

-- ---- every height: at or below the table's foot, at or above its top, or between
left-number : (x y : Float) → T (le x y) → T (not (is_nan x))
unfolding le is_nan
left-number nan y h = absurd h
left-number (inf s) y h = tt
left-number (fin s m e) y h = tt

right-number : (x y : Float) → T (le x y) → T (not (is_nan y))
unfolding le is_nan
right-number nan y h = absurd h
right-number (inf s) nan h = absurd h
right-number (inf s) (inf t) h = tt
right-number (inf s) (fin t n d) h = tt
right-number (fin s m e) nan h = absurd h
right-number (fin s m e) (inf t) h = tt
right-number (fin s m e) (fin t n d) h = tt

record Foot (h : Float) : Type 0 where
  low : T (le h (height_of 0))
  is : density_at h ≡ density_of 0

record Top (h : Float) : Type 0 where
  high : T (le (height_of last_row) h)
  is : density_at h ≡ density_of last_row

-- the row of a height within the table
record Step-of (h : Float) : Type 0 where
  row : ℕ
  inside : row < last_row
  on : OnStep row inside h
  over : T (lt (height_of 0) h)
  under : T (lt h (height_of (suc row)))
  is : density_at h ≡ between row h

where-is : (h : Float) → T (not (is_nan h)) → Foot h ⊎ (Top h ⊎ Step-of h)
unfolding density_at
where-is h p = go (le h (height_of 0)) (le (height_of last_row) h) refl refl
  where
    go : (a b : Bool) → le h (height_of 0) ≡ a → le (height_of last_row) h ≡ b → Foot h ⊎ (Top h ⊎ Step-of h)
    go true b e f = inl (record { low = subst T (sym e) tt; is = rw e })
    go false true e f = inr (inl (record { high = subst T (sym f) tt; is = rw (e, f) }))
    go false false e f =
        let w = between_ends h p e f in
        inr (inr (record {
          row = row_down_from last_row h;
          inside = row_inside h w;
          on = record { over = over-row h w; under = lt→le h (height_of (suc (row_down_from last_row h))) (under_next h w) };
          over = w.above;
          under = under_next h w;
          is = rw (e, f);
        }))

-- ---- higher up the density is never larger
against : (x y : Float) → T (finite x) → T (finite y) → T (le x y) → T (lt y x) → ⊥
against x y p q l k = T_not (lt y x) (le→not-lt y x q p l) k

le-or-lt : (a b : ℕ) → (a ≤ b) ⊎ (b < a)
le-or-lt a b = go (leb a b) (leb→le a b) (nleb→lt a b)
  where
    go : (t : Bool) → (T t → a ≤ b) → (T (not t) → b < a) → (a ≤ b) ⊎ (b < a)
    go true h k = inl (h tt)
    go false h k = inr (k tt)

top-over-foot : T (le (height_of last_row) (height_of 0)) → ⊥
unfolding height_of of_int round le
top-over-foot t = t

module _ (x y : Float) (l : T (le x y)) where
  abbrev Falls : Type 0
  Falls = T (le (density_at y) (density_at x))

  by_values : {a b : Float} → density_at x ≡ a → density_at y ≡ b → T (le b a) → Falls
  by_values {a} {b} e f t = rw (e, f) t

  on-steps : (s : Step-of x) (t : Step-of y) → Falls
  on-steps s t =
      elim (le-or-lt s.row t.row) [
        | inl up ↦ elim (eq-or-lt_of_le up) [ inl same ↦ one-step same | inr less ↦ apart less ]
        | inr more ↦ absurd
            (rotated more)
      ]
    where
      one-step : s.row ≡ t.row → Falls
      one-step e =
          by_values s.is (t.is ∙ ap (λ (i : ℕ). between i y) (sym e))
          (step_falls s.row s.inside x y s.on
          (record {
            over = subst (λ (i : ℕ). T (le (height_of i) y)) (sym e) t.on.over;
            under = subst (λ (i : ℕ). T (le y (height_of (suc i)))) (sym e) t.on.under;
          }) l)

      apart : s.row < t.row → Falls
      apart k =
          by_values s.is t.is (le-trans-float (between t.row y) (density_of t.row) (between s.row x)
          (step_in t.row t.inside y t.on).at_most
          (le-trans-float (density_of t.row) (density_of (suc s.row)) (between s.row x)
          (densities-fall (suc s.row) t.row k (omega (arith, t.inside))) (step_in s.row s.inside x s.on).at_least))

      rotated : t.row < s.row → ⊥
      rotated k = against (height_of (suc t.row)) y (height-finite (suc t.row) (omega (arith, t.inside))) (on-finite t.row t.inside y t.on)
          (le-trans-float (height_of (suc t.row)) (height_of s.row) y (heights-climb (suc t.row) s.row k (omega (arith, s.inside)))
          (le-trans-float (height_of s.row) x y s.on.over l)) t.under

  falls-by : Foot x ⊎ (Top x ⊎ Step-of x) → Foot y ⊎ (Top y ⊎ Step-of y) → Falls
  falls-by (inl s) (inl t) = by_values s.is t.is (densities-fall 0 0 (le_refl 0) (omega arith))
  falls-by (inl s) (inr (inl t)) = by_values s.is t.is (densities-fall 0 last_row (omega arith) (omega arith))
  falls-by (inl s) (inr (inr t)) =
      by_values s.is t.is
      (le-trans-float (between t.row y) (density_of t.row) (density_of 0) (step_in t.row t.inside y t.on).at_most
      (densities-fall 0 t.row zero-le (omega (arith, t.inside))))
  falls-by (inr (inl s)) (inl t) =
      absurd (top-over-foot (le-trans-float (height_of last_row) x (height_of 0) s.high (le-trans-float x y (height_of 0) l t.low)))
  falls-by (inr (inl s)) (inr (inl t)) = by_values s.is t.is (densities-fall last_row last_row (le_refl last_row) (omega arith))
  falls-by (inr (inl s)) (inr (inr t)) =
      absurd
      (against (height_of (suc t.row)) y (height-finite (suc t.row) (omega (arith, t.inside))) (on-finite t.row t.inside y t.on)
      (le-trans-float (height_of (suc t.row)) (height_of last_row) y (heights-climb (suc t.row) last_row t.inside (omega arith))
      (le-trans-float (height_of last_row) x y s.high l)) t.under)
  falls-by (inr (inr s)) (inl t) =
      absurd (against x (height_of 0) (on-finite s.row s.inside x s.on) (height-finite 0 (omega arith))
      (le-trans-float x y (height_of 0) l t.low) s.over)
  falls-by (inr (inr s)) (inr (inl t)) =
      by_values s.is t.is
      (le-trans-float (density_of last_row) (density_of (suc s.row)) (between s.row x)
      (densities-fall (suc s.row) last_row s.inside (omega arith)) (step_in s.row s.inside x s.on).at_least)
  falls-by (inr (inr s)) (inr (inr t)) = on-steps s t

pub density-falls : (x y : Float) → T (le x y) → T (le (density_at y) (density_at x))
density-falls x y l = falls-by x y l (where-is x (left-number x y l)) (where-is y (right-number x y l))

-- ---- at each row it is the row's, and between two rows it never leaves their two densities
abbrev row_tests : ℕ → List Bool
row_tests i = le (density_at (height_of i)) (density_of i) ∷ le (density_of i) (density_at (height_of i)) ∷ []

pub at_row : (i : ℕ) → i < row_count → All (row_tests i)
at_row i l =
    all→ (row_tests i)
    (every_below→ (λ (i : ℕ). allb (row_tests i)) row_count
    (unfold every_below density_at row_down_from between density_of densities ten_thousandths height_of of_int add sub mul div round le in tt) i l)

pub between-rows : (i : ℕ) (h : Float) → i < last_row → T (le (height_of i) h) → T (le h (height_of (suc i)))
    → Within (density_of (suc i)) (density_of i) (density_at h)
between-rows i h l a b = record {
  at_least =
      le-trans-float (density_of (suc i)) (density_at (height_of (suc i))) (density_at h) (at_row (suc i) (omega (arith, l))).1.0
      (density-falls h (height_of (suc i)) b);
  at_most = le-trans-float (density_at h) (density_at (height_of i)) (density_of i) (density-falls (height_of i) h a) (at_row i (omega (arith, l))).0;
}

-- ---- at every height it lies between the two ends' densities
ends-in : (i : ℕ) → i < row_count → Within (density_of last_row) (density_of 0) (density_of i)
ends-in i l = record { at_least = densities-fall i last_row (omega (arith, l)) (omega arith); at_most = densities-fall 0 i zero-le l }

in-by : (h : Float) → Foot h ⊎ (Top h ⊎ Step-of h) → Within (density_of last_row) (density_of 0) (density_at h)
in-by h (inl s) = rw s.is (ends-in 0 (omega arith))
in-by h (inr (inl s)) = rw s.is (ends-in last_row (omega arith))
in-by h (inr (inr s)) =
    rw s.is
    (within_wider (density_of (suc s.row)) (density_of s.row) (density_of last_row) (density_of 0) (between s.row h)
    (densities-fall (suc s.row) last_row s.inside (omega arith))
    (densities-fall 0 s.row zero-le (omega (arith, s.inside))) (step_in s.row s.inside h s.on))

pub density-in : (h : Float) → T (not (is_nan h)) → Within (density_of last_row) (density_of 0) (density_at h)
density-in h p = in-by h (where-is h p)

-- ---- a NaN gives a NaN
pub density-nan : density_at nan ≡ nan
unfolding density_at row_down_from between le add sub mul div density_of densities ten_thousandths height_of of_int round
density-nan = refl

-- so the density is never a zero
level-zero : (s : Bool) (e : ℤ) → T (le (fin s Nat.zero e) zero)
unfolding le
level-zero s e = rw (zero-not-below s e, zero-is-zero s e) tt

not-level : T (le (density_of last_row) zero) → ⊥
unfolding le density_of densities ten_thousandths round
not-level t = t

above : (v : Float) → T (le (density_of last_row) v) → T (nonzero v)
above nan l = tt
above (inf s) l = tt
above (fin s Nat.zero e) l = not-level (le-trans-float (density_of last_row) (fin s Nat.zero e) zero l (level-zero s e))
above (fin s (suc m) e) l = tt

pub density-nonzero : (h : Float) → T (nonzero (density_at h))
density-nonzero nan = rw density-nan tt
density-nonzero (inf s) = above (density_at (inf s)) (density-in (inf s) (unfold is_nan in tt)).at_least
density-nonzero (fin s m e) = above (density_at (fin s m e)) (density-in (fin s m e) (unfold is_nan in tt)).at_least

-- ---- at 0 m, of either sign, it is 1.225
sea-level : rounded 1225 1000 ≡ fin false 10276045 (negsuc 22)
unfolding round
sea-level = refl

at_zero : (s : Bool) → density_at (flip s zero) ≡ fin false 10276045 (negsuc 22)
unfolding density_at row_down_from between le add sub mul div neg density_of densities ten_thousandths height_of of_int round
at_zero false = refl
at_zero true = refl

pub density-at-0 : (s : Bool) → density_at (flip s zero) ≡ rounded 1225 1000
density-at-0 s = at_zero s ∙ sym sea-level

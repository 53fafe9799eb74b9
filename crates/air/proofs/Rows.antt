-- The rows of the table, each fact computed once over all of them: their heights as the code makes them, and at both ends of each
-- step the formula's value. And the row of a height: the
-- height lies between it and the next, and the code's guess is it or the next, since rounding keeps the order. Assumes nothing.
use Prim.Native.Nat as Nat
use Prim.Native.Nat.{◌*◌, ◌-◌, ◌<◌, ◌≤◌, suc, ℕ}
use lib.Dec.{T, T_not, leb→le}
use lib.Ieee.{Float, add, binary32, div, fin, fits, is_nan, le, lt, mul, of_int, round, sub, to_signed}
use lib.Ieee.Scale.{finite}
use lib.IntN.{negsuc, pos, ℤ}
use lib.Signed.{le_z}
use mathlib.Core.Bool.{Bool, cond, false, not, true}
use mathlib.Core.List.{List, [], ◌∷◌}
use mathlib.Core.Logic.{inl, inr}
use mathlib.Core.Path.{◌∙◌, ◌≡◌, ap, refl, subst, sym}
use native.Mathlib.Nat.{eq-or-lt_of_le, le_refl}
use native.Mathlib.Omega.{arith}
use Rattle.float.proofs.Interval.{div-in, plus-in, within-finite}
use Rattle.float.proofs.Lists.{same_at}
use Rattle.float.proofs.Order.{finite_number, le-lt, le-self, le-trans-float, le→not-lt, lt-le, lt→le, not-le→lt}
use Rattle.float.proofs.Rounding.{add-mono-l, divide-mono}
use Rattle.float.proofs.Tests.{All, all→, allb, by_cases, every_below, every_below→}
use Rattle.float.proofs.Truncation.{to_signed-mono}
use Rattle.float.specs.Interval.{Within}
use Rattle.float.specs.Lists.{list_from, list_of}
use Rattle.float.specs.Notation.{◌⊕◌, ◌⊖◌, ◌⊗◌, ◌⊘◌, zero, one, rounded}
use Rattle.air.specs.Promises.{Inside}
use Rattle.air.specs.Density.{between, densities, density_of, height_of, last_row, row_count, row_down_from, ten_thousandths}

-- ---- the heights, as the code makes them
heights : list_of (λ (i : ℕ). of_int binary32 (pos (i * 100)) ⊖ rounded 1000 1) row_count ≡ list_of height_of row_count
unfolding list_of list_from height_of of_int sub round
heights = refl

pub height-made : (i : ℕ) → i < row_count → of_int binary32 (pos (i * 100)) ⊖ rounded 1000 1 ≡ height_of i
height-made i l = same_at zero (λ (i : ℕ). of_int binary32 (pos (i * 100)) ⊖ rounded 1000 1) height_of row_count heights i l

-- and a row lower
lower : list_of (λ (i : ℕ). height_of (suc i) ⊖ rounded 100 1) last_row ≡ list_of height_of last_row
unfolding list_of list_from height_of of_int sub round
lower = refl

pub row-lower : (i : ℕ) → i < last_row → height_of (suc i) ⊖ rounded 100 1 ≡ height_of i
row-lower i l = same_at zero (λ (i : ℕ). height_of (suc i) ⊖ rounded 100 1) height_of last_row lower i l

pub height-finite : (i : ℕ) → i < row_count → T (finite (height_of i))
height-finite i l = every_below→ (λ (i : ℕ). finite (height_of i)) row_count (unfold every_below height_of of_int round in tt) i l

density-finite : (i : ℕ) → i < row_count → T (finite (density_of i))
density-finite i l = every_below→ (λ (i : ℕ). finite (density_of i)) row_count (unfold every_below density_of densities ten_thousandths round in tt) i l

-- ---- a step from one row to the next, and what its arithmetic meets
abbrev pub rise : ℕ → Float
rise i = density_of (suc i) ⊖ density_of i

pub record Step (i : ℕ) : Type 0 where
  pub here : T (finite (density_of i))
  pub of-rise : T (finite (rise i))
  pub of-whole : T (finite (rise i ⊗ one))
  pub of_none : T (finite (rise i ⊗ zero))
  pub not-up : T (le (rise i) zero)
  pub at-foot : T (le zero (height_of i ⊖ height_of i))
  pub at_top : T (le (height_of (suc i) ⊖ height_of i) (rounded 100 1))
  -- the next row is higher, and at the step's two ends the formula stays within the two rows' densities
  pub climbs : T (le (height_of i) (height_of (suc i)))
  pub starts : T (le (between i (height_of i)) (density_of i))
  pub ends : T (le (density_of (suc i)) (between i (height_of (suc i))))

abbrev step_tests : ℕ → List Bool
step_tests i =
    finite (density_of i)
    ∷ finite (rise i)
    ∷ finite (rise i ⊗ one)
    ∷ finite (rise i ⊗ zero)
    ∷ le (rise i) zero
    ∷ le zero (height_of i ⊖ height_of i)
    ∷ le (height_of (suc i) ⊖ height_of i) (rounded 100 1)
    ∷ le (height_of i) (height_of (suc i))
    ∷ le (between i (height_of i)) (density_of i)
    ∷ le (density_of (suc i)) (between i (height_of (suc i)))
    ∷ []

steps-pass : T (every_below (λ (i : ℕ). allb (step_tests i)) last_row)
unfolding every_below between density_of densities ten_thousandths height_of of_int add sub mul div round le
steps-pass = tt

named : (i : ℕ) → All (step_tests i) → Step i
named i (here, (of-rise, (of-whole, (of_none, (not-up, (at-foot, (at_top, (climbs, (starts, (ends, rest)))))))))) =
    record {
      here = here;
      of-rise = of-rise;
      of-whole = of-whole;
      of_none = of_none;
      not-up = not-up;
      at-foot = at-foot;
      at_top = at_top;
      climbs = climbs;
      starts = starts;
      ends = ends;
    }

pub step : (i : ℕ) → i < last_row → Step i
step i l = named i (all→ (step_tests i) (every_below→ (λ (i : ℕ). allb (step_tests i)) last_row steps-pass i l))

-- ---- from each row to the next higher the density falls
rows-tested : T (every_below (λ (i : ℕ). lt (density_of (suc i)) (density_of i)) last_row)
unfolding every_below density_of densities ten_thousandths round lt
rows-tested = tt

pub row-falls : (i : ℕ) → i < last_row → T (lt (density_of (suc i)) (density_of i))
row-falls i l = every_below→ (λ (i : ℕ). lt (density_of (suc i)) (density_of i)) last_row rows-tested i l

-- ---- the rows in order: higher, and not denser
in_order : (R : ℕ → ℕ → Type 0) → ((i : ℕ) → i < row_count → R i i) → ((i j : ℕ) → i ≤ j → j < last_row → R i j → R i (suc j)) → (i j : ℕ) → i ≤ j
    → j < row_count → R i j
in_order R same next i Nat.zero a b = subst (λ (k : ℕ). R k Nat.zero) (none i a) (same Nat.zero b)
  where
    none : (i : ℕ) → i ≤ 0 → 0 ≡ i
    none i l = omega arith
in_order R same next i (suc j) a b =
    elim (eq-or-lt_of_le a) [
      | inl e ↦ subst (λ (k : ℕ). R k (suc j)) (sym e) (same (suc j) b)
      | inr l ↦ next i j (omega (arith, l)) (omega (arith, b))
          (in_order R same next i j (omega (arith, l)) (omega (arith, b)))
    ]

pub heights-climb : (i j : ℕ) → i ≤ j → j < row_count → T (le (height_of i) (height_of j))
heights-climb =
    in_order (λ (i j : ℕ). T (le (height_of i) (height_of j))) (λ i l. le-self (height_of i) (height-finite i l))
    (λ i j a l h. le-trans-float (height_of i) (height_of j) (height_of (suc j)) h (step j l).climbs)

pub densities-fall : (i j : ℕ) → i ≤ j → j < row_count → T (le (density_of j) (density_of i))
densities-fall =
    in_order (λ (i j : ℕ). T (le (density_of j) (density_of i))) (λ i l. le-self (density_of i) (density-finite i l))
    (λ i j a l h. le-trans-float (density_of (suc j)) (density_of j) (density_of i) (lt→le (density_of (suc j)) (density_of j) (row-falls j l)) h)

-- ---- the row of a height
pub row-most : (n : ℕ) (h : Float) → row_down_from n h ≤ n
unfolding row_down_from
row-most Nat.zero h = le_refl 0
row-most (suc n) h = by_cases (λ (i : ℕ). i ≤ suc n) (le (height_of (suc n)) h) (λ e. le_refl (suc n)) (up (row_down_from n h) n (row-most n h))
  where
    up : (a n : ℕ) → a ≤ n → a ≤ suc n
    up a n l = omega arith

-- it is not above the height
pub row_below : (n : ℕ) (h : Float) → T (le (height_of 0) h) → T (le (height_of (row_down_from n h)) h)
unfolding row_down_from
row_below Nat.zero h b = b
row_below (suc n) h b = by_cases (λ (i : ℕ). T (le (height_of i) h)) (le (height_of (suc n)) h) (λ e. subst T (sym e) tt) (row_below n h b)

-- and the next one is
pub row-above : (n : ℕ) (h : Float) → n < row_count → T (finite h) → T (lt h (height_of (suc n))) → T (lt h (height_of (suc (row_down_from n h))))
unfolding row_down_from
row-above Nat.zero h l p b = b
row-above (suc n) h l p b = go (le (height_of (suc n)) h) refl (row-above n h (omega (arith, l)) p)
  where
    go : (t : Bool) → le (height_of (suc n)) h ≡ t → (T (lt h (height_of (suc n))) → T (lt h (height_of (suc (row_down_from n h)))))
        → T (lt h (height_of (suc (cond t (suc n) (row_down_from n h)))))
    go true e lower = b
    go false e lower =
        lower
        (not-le→lt (height_of (suc n)) h (finite_number (height_of (suc n)) (height-finite (suc n) (omega (arith, l)))) (finite_number h p)
        (subst (λ (t : Bool). T (not t)) (sym e) tt))

-- ---- a number for which neither end's test holds is between them
pub between_ends : (h : Float) → T (not (is_nan h)) → le h (height_of 0) ≡ false → le (height_of last_row) h ≡ false → Inside h
between_ends h p e f = record {
  above = not-le→lt h (height_of 0) p (number 0 (omega arith)) (subst (λ (t : Bool). T (not t)) (sym e) tt);
  below = not-le→lt (height_of last_row) h (number last_row (omega arith)) p (subst (λ (t : Bool). T (not t)) (sym f) tt);
}
  where
    number : (i : ℕ) → i < row_count → T (not (is_nan (height_of i)))
    number i l = finite_number (height_of i) (height-finite i l)

-- ---- the code's guess
abbrev pub guess : Float → ℤ
guess h = to_signed 63 ((h ⊕ rounded 1000 1) ⊘ rounded 100 1)

guesses : list_of (λ (i : ℕ). guess (height_of i)) row_count ≡ list_of pos row_count
unfolding list_of list_from height_of of_int add div round to_signed
guesses = refl

guess-at : (i : ℕ) → i < row_count → guess (height_of i) ≡ pos i
guess-at i l = same_at (pos 0) (λ (i : ℕ). guess (height_of i)) pos row_count guesses i l

abbrev WithinTable : Float → Type 0
WithinTable h = Within (height_of 0) (height_of last_row) h

table-finite : (h : Float) → WithinTable h → T (finite h)
table-finite h w = within-finite (height_of 0) (height_of last_row) h (height-finite 0 (omega arith)) (height-finite last_row (omega arith)) w

-- a height above the table's foot, and the quotient that is cut
over-foot : (h : Float) → WithinTable h → Within zero (rounded 6000 1) (h ⊕ rounded 1000 1)
unfolding height_of of_int add round
over-foot h w = plus-in binary32 (rounded 1000 1) (height_of 0) (height_of last_row) h tt tt tt w

pub quotient-in : (h : Float) → WithinTable h → Within zero (rounded 60 1) ((h ⊕ rounded 1000 1) ⊘ rounded 100 1)
unfolding div round le fits
quotient-in h w = div-in binary32 (rounded 6000 1) (h ⊕ rounded 1000 1) (rounded 100 1) (rounded 100 1) tt tt tt tt (over-foot h w) tt

-- so it is below 2 ^ 24 in size, as the cut asks
pub quotient-small : (h : Float) → Inside h → T (lt (fin true 1 (pos 24)) ((h ⊕ rounded 1000 1) ⊘ rounded 100 1))
    × T (lt ((h ⊕ rounded 1000 1) ⊘ rounded 100 1) (fin false 1 (pos 24)))
quotient-small h w =
    let q = (h ⊕ rounded 1000 1) ⊘ rounded 100 1 in
    let i = quotient-in h (record { at_least = lt→le (height_of 0) h w.above; at_most = lt→le h (height_of last_row) w.below }) in
    let f = within-finite zero (rounded 60 1) q tt (unfold round in tt) i in (
      lt-le (fin true 1 (pos 24)) zero q tt tt f (unfold lt in tt) i.at_least,
      le-lt q (rounded 60 1) (fin false 1 (pos 24)) f (unfold round in tt) tt i.at_most (unfold lt round in tt),
    )

guess-mono : (x y : Float) → WithinTable x → WithinTable y → T (le x y) → T (le_z (guess x) (guess y))
guess-mono x y v w l =
    let a = over-foot x v in
    let b = over-foot y w in
    to_signed-mono 63 ((x ⊕ rounded 1000 1) ⊘ rounded 100 1) ((y ⊕ rounded 1000 1) ⊘ rounded 100 1) (quotient-finite x v) (quotient-finite y w)
    (divide-mono binary32 (x ⊕ rounded 1000 1) (y ⊕ rounded 1000 1) (rounded 100 1) (rounded 100 1) (foot-finite x v) (foot-finite y w)
    (unfold round in tt) (unfold round in tt) a.at_least b.at_least
    (add-mono-l binary32 x y (rounded 1000 1) (table-finite x v) (table-finite y w) (unfold round in tt) l) (unfold round le in tt))
  where
    foot-finite : (h : Float) → WithinTable h → T (finite (h ⊕ rounded 1000 1))
    foot-finite h w = within-finite zero (rounded 6000 1) (h ⊕ rounded 1000 1) tt (unfold round in tt) (over-foot h w)

    quotient-finite : (h : Float) → WithinTable h → T (finite ((h ⊕ rounded 1000 1) ⊘ rounded 100 1))
    quotient-finite h w = within-finite zero (rounded 60 1) ((h ⊕ rounded 1000 1) ⊘ rounded 100 1) tt (unfold round in tt) (quotient-in h w)

row_in : (i : ℕ) → i < row_count → WithinTable (height_of i)
row_in i l =
    let both = all→ (tests i) (every_below→ (λ (i : ℕ). allb (tests i)) row_count (unfold every_below height_of of_int round le in tt) i l) in
    record { at_least = both.0; at_most = both.1.0 }
  where
    tests : ℕ → List Bool
    tests i = le (height_of 0) (height_of i) ∷ le (height_of i) (height_of last_row) ∷ []

-- it is the height's row or the next
pub record Guessed (h : Float) (z : ℤ) : Type 0 where
  pub k : ℕ
  pub is : z ≡ pos k
  pub at_least : row_down_from last_row h ≤ k
  pub at_most : k ≤ suc (row_down_from last_row h)

guessed-from : (h : Float) (z : ℤ) → T (le_z (pos (row_down_from last_row h)) z) → T (le_z z (pos (suc (row_down_from last_row h)))) → Guessed h z
guessed-from h (pos k) a b = record { k = k; is = refl; at_least = leb→le (row_down_from last_row h) k a; at_most = leb→le k (suc (row_down_from last_row h)) b }
guessed-from h (negsuc k) a b = absurd a

beyond-top : T (finite (height_of row_count)) × T (le (height_of last_row) (height_of row_count))
unfolding height_of of_int round le
beyond-top = (tt, tt)

module _ (h : Float) (in_table : Inside h) where
  abbrev i : ℕ
  i = row_down_from last_row h

  pub inside-table : WithinTable h
  inside-table = record { at_least = lt→le (height_of 0) h in_table.above; at_most = lt→le h (height_of last_row) in_table.below }

  pub inside-finite : T (finite h)
  inside-finite = table-finite h inside-table

  pub over-row : T (le (height_of i) h)
  over-row = row_below last_row h inside-table.at_least

  pub under_next : T (lt h (height_of (suc i)))
  under_next =
      row-above last_row h (omega arith) inside-finite
      (lt-le h (height_of last_row) (height_of row_count) inside-finite (height-finite last_row (omega arith)) beyond-top.0 in_table.below
      beyond-top.1)

  pub row_inside : i < last_row
  row_inside =
      elim (eq-or-lt_of_le (row-most last_row h)) [
        | inl e ↦ absurd
            (T_not (lt h (height_of last_row)) (le→not-lt h (height_of last_row) inside-finite (height-finite last_row (omega arith))
            (subst (λ (k : ℕ). T (le (height_of k) h)) e over-row)) in_table.below)
        | inr l ↦ l
      ]

  pub guessed : Guessed h (guess h)
  guessed =
      guessed-from h (guess h)
      (subst (λ (z : ℤ). T (le_z z (guess h))) (guess-at i (omega (arith, row_inside)))
      (guess-mono (height_of i) h (row_in i (omega (arith, row_inside))) inside-table over-row))
      (subst (λ (z : ℤ). T (le_z (guess h) z)) (guess-at (suc i) (omega (arith, row_inside)))
      (guess-mono h (height_of (suc i)) inside-table (row_in (suc i) (omega (arith, row_inside))) (lt→le h (height_of (suc i)) under_next)))

  -- and the code's test tells which
  pub stepped_down : (k : ℕ) → i ≤ k → k ≤ suc i → lt h (height_of k) ≡ true → k ≡ suc i
  stepped_down k a b e =
      elim (eq-or-lt_of_le a) [
        | inl same ↦ absurd
            (T_not (lt h (height_of i)) (le→not-lt h (height_of i) inside-finite (height-finite i (omega (arith, row_inside))) over-row)
            (subst T (sym e ∙ ap (λ (j : ℕ). lt h (height_of j)) (sym same)) tt))
        | inr more ↦ omega (arith, more, b)
      ]

  pub kept : (k : ℕ) → i ≤ k → k ≤ suc i → lt h (height_of k) ≡ false → k ≡ i
  kept k a b e =
      elim (eq-or-lt_of_le b) [
        | inl same ↦ absurd (subst T (ap (λ (j : ℕ). lt h (height_of j)) (sym same) ∙ e) under_next)
        | inr less ↦
            omega (arith, less, a)
      ]

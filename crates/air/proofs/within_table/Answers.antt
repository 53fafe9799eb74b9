-- `air::within_table` meets its contract: the guess is the height's row or the next, and the test tells which. Assumes nothing.
use Prim.Native.Nat.{◌<◌, ◌-◌, ◌≤◌, suc, ℕ}
use lib.Dec.{T}
use lib.Ieee.{Float, lt, of_bits, round}
use lib.IntN.{nat_abs, pos, ℤ}
use lib.Signed.{non_neg}
use mathlib.Core.Bool.{false, true}
use mathlib.Core.Path.{◌∙◌, ◌≡◌, ap, subst, sym}
use mir.Syntax.{w32, w64}
use mir.Val.{Fits, SFits, of_z, to_z}
use mir.ValLaws.{to_z-of_z}
use native.Mathlib.Omega.{arith}
use Rattle.float.specs.Notation.{◌⊖◌, rounded}
use Rattle.air.proofs.Rows.{Guessed, guess, guessed, kept, quotient-small, row_inside, row-lower, stepped_down}
use Rattle.air.specs.Promises.{Inside}
use Rattle.air.specs.Density.{between, height_of, last_row, row_count, row_down_from}
use Rattle.air.proofs.within_table.Goals as goal

-- ---- the guess, as the machine reads it
held : (k : ℕ) → k < row_count → SFits w64 (pos k)
held k l = record { sfits = omega arith }

fit : (k : ℕ) → k < row_count → Fits w32 k
fit k l = record { fits = omega arith }

module _ (h : Float) (w : Inside h) (z : ℤ) (is : z ≡ guess h) where
  g : Guessed h (guess h)
  g = guessed h w

  in_table : g.k < row_count
  in_table = omega (arith, g.at_most, row_inside h w)

  read_back : to_z w64 (of_z w64 z) ≡ pos g.k
  read_back = ap (λ (z : ℤ). to_z w64 (of_z w64 z)) (is ∙ g.is) ∙ to_z-of_z w64 (pos g.k) (held g.k in_table)

  casts : T (non_neg (to_z w64 (of_z w64 z))) × Fits w32 (nat_abs (to_z w64 (of_z w64 z)))
  casts = subst (λ (z : ℤ). T (non_neg z) × Fits w32 (nat_abs z)) (sym read_back) (tt, fit g.k in_table)

  is_row : nat_abs (to_z w64 (of_z w64 z)) < row_count
  is_row = rw read_back in_table

  module _ (r : Float) (made : r ≡ height_of (nat_abs (to_z w64 (of_z w64 z)))) where
    down : lt h r ≡ true → nat_abs (to_z w64 (of_z w64 z)) ≡ suc (row_down_from last_row h)
    down e =
        ap nat_abs read_back ∙ stepped_down h w g.k g.at_least g.at_most
        (sym (ap (lt h) (made ∙ ap (λ (z : ℤ). height_of (nat_abs z)) read_back)) ∙ e)

    stays : lt h r ≡ false → nat_abs (to_z w64 (of_z w64 z)) ≡ row_down_from last_row h
    stays e = ap nat_abs read_back ∙ kept h w g.k g.at_least g.at_most (sym (ap (lt h) (made ∙ ap (λ (z : ℤ). height_of (nat_abs z)) read_back)) ∙ e)

one_less : (n i : ℕ) → n ≡ suc i → n - 1 ≡ i
one_less n i e = omega (arith, e)

some : (n i : ℕ) → n ≡ suc i → 1 ≤ n
some n i e = omega (arith, e)

-- ---- the row that the machine reads of the guess, and the height's
abbrev row_guessed : ℤ → ℕ
row_guessed z = nat_abs (to_z w64 (of_z w64 z))

abbrev row_of : Float → ℕ
row_of h = row_down_from last_row h

pub truncated-guess-requires : goal.truncated-guess-requires
unfolding of_bits round
truncated-guess-requires c =
    let q = quotient-small c.args.height_m c.requires in record { lower_bound = q.0; upper_bound = q.1 }

pub overflow_cast-guess : goal.overflow_cast-guess
unfolding of_bits round
overflow_cast-guess c = casts c.args.height_m c.requires c.truncated-guess.result c.truncated-guess.ensures.value

pub row_height-row_m-requires : goal.row_height-row_m-requires
unfolding of_bits round
row_height-row_m-requires c = is_row c.args.height_m c.requires c.truncated-guess.result c.truncated-guess.ensures.value

pub overflow_sub-guess : goal.overflow_sub-guess
unfolding of_bits round
overflow_sub-guess c = some (row_guessed c.truncated-guess.result) (row_of c.args.height_m) (down c.args.height_m c.requires c.truncated-guess.result c.truncated-guess.ensures.value c.row_height-row_m.result
    c.row_height-row_m.ensures c.if-height_m-row_m.true)

pub between-requires : goal.between-requires
unfolding of_bits round
between-requires c =
    let g = c in
    let less = one_less (row_guessed g.truncated-guess.result) (row_of g.args.height_m) (down c.args.height_m c.requires c.truncated-guess.result c.truncated-guess.ensures.value c.row_height-row_m.result
    c.row_height-row_m.ensures c.if-height_m-row_m.true) in
    let last = row_inside g.args.height_m g.requires in record {
      row_below_last = subst (λ (k : ℕ). k < last_row) (sym less) last;
      row_height = ap (λ (x : Float). x ⊖ rounded 100 1) (c.row_height-row_m.ensures ∙ ap height_of (down c.args.height_m c.requires c.truncated-guess.result c.truncated-guess.ensures.value c.row_height-row_m.result
          c.row_height-row_m.ensures c.if-height_m-row_m.true)) ∙ row-lower (row_of g.args.height_m) last ∙ ap height_of (sym less);
    }

pub returns-then-height_m-row_m : goal.returns-then-height_m-row_m
unfolding of_bits round
returns-then-height_m-row_m c =
    let g = c in
    c.between.ensures ∙ ap (λ (k : ℕ). between k g.args.height_m) (one_less (row_guessed g.truncated-guess.result) (row_of g.args.height_m) (down c.args.height_m c.requires c.truncated-guess.result c.truncated-guess.ensures.value c.row_height-row_m.result
    c.row_height-row_m.ensures c.if-height_m-row_m.true))

pub between-requires-2 : goal.between-requires-2
unfolding of_bits round
between-requires-2 c =
    let g = c in record {
      row_below_last = subst (λ (k : ℕ). k < last_row) (sym (stays c.args.height_m c.requires c.truncated-guess.result c.truncated-guess.ensures.value c.row_height-row_m.result
          c.row_height-row_m.ensures c.if-height_m-row_m.false)) (row_inside g.args.height_m g.requires);
      row_height = c.row_height-row_m.ensures;
    }

pub returns : goal.returns
unfolding of_bits round
returns c = c.between-2.ensures ∙ ap (λ (k : ℕ). between k c.args.height_m) (stays c.args.height_m c.requires c.truncated-guess.result c.truncated-guess.ensures.value c.row_height-row_m.result
    c.row_height-row_m.ensures c.if-height_m-row_m.false)

-- The test of an interval tells what it says, and answers alike for the same number and, about zero, for the opposite one. Assumes nothing.
use Rattle.std.proofs.Common.{◌≡◌, Bool, true, false, ◌&&◌, T, sym, refl, ap, ◌∙◌, subst, ap₂}
use lib.Ieee.{Float, le, neg}
use mathlib.Core.Bool.{false≢true}
use Rattle.float.proofs.Mirror.{r-le, r-le-opp, r-same}
use Rattle.float.proofs.Sign.{neg-neg}
use Rattle.float.specs.Interval.{Within, inside}
use Rattle.float.specs.Same.{Rel, num}

and_both : (a b : Bool) → (a && b) ≡ true → (a ≡ true) × (b ≡ true)
and_both true true e = (refl, refl)
and_both true false e = absurd (false≢true e)
and_both false b e = absurd (false≢true e)

pub inside-within : {lo hi x : Float} → inside lo hi x ≡ true → Within lo hi x
unfolding inside
inside-within {lo} {hi} {x} e =
    record { at_least = subst T (sym (and_both (le lo x) (le x hi) e).0) tt; at_most = subst T (sym (and_both (le lo x) (le x hi) e).1) tt }

is_true : (b : Bool) → T b → b ≡ true
is_true true t = refl
is_true false t = absurd t

pub within-inside : {lo hi x : Float} → Within lo hi x → inside lo hi x ≡ true
unfolding inside
within-inside {lo} {hi} {x} w = ap₂ ◌&&◌ (is_true (le lo x) w.at_least) (is_true (le x hi) w.at_most)

-- it is the same for the same number, and about zero for the opposite one
pub inside-same : {x x' : Float} (lo hi : Float) → Rel false x x' → inside lo hi x' ≡ inside lo hi x
unfolding inside
inside-same lo hi h = ap₂ ◌&&◌ (r-le (r-same lo) h) (r-le h (r-same hi))

pub inside-opp : {x x' : Float} (l : Float) → Rel true x x' → inside (neg l) l x' ≡ inside (neg l) l x
unfolding inside
inside-opp {x} {x'} l h =
    ap₂ ◌&&◌ (r-le-opp (record { same = refl }) h) (r-le-opp h (record { same = ap num (sym (neg-neg l)) })) ∙ and_comm (le x l) (le (neg l) x)
  where
    and_comm : (a b : Bool) → (a && b) ≡ (b && a)
    and_comm true true = refl
    and_comm true false = refl
    and_comm false true = refl
    and_comm false false = refl

pub inside-rel : {p : Bool} {x x' : Float} (l : Float) → Rel p x x' → inside (neg l) l x' ≡ inside (neg l) l x
inside-rel {p} {x} {x'} l h = go p h
  where
    go : (p : Bool) → Rel p x x' → inside (neg l) l x' ≡ inside (neg l) l x
    go true h = inside-opp l h
    go false h = inside-same (neg l) l h

-- The comparison of two numbers is the theorem's: `same_number` says true where they are the same number (`Same`), and where it says so
-- of two 32-bit floats, they are. Assumes nothing.
use Rattle.std.proofs.Common.{◌≡◌, Bool, true, false, cond, not, T, sym, refl, ap, ◌∙◌, true≢false}
use lib.Ieee.{Float, binary32, eq, fin, fits, inf, is_nan, nan, ne, neg}
use lib.Ieee.Fits.{neg-fits}
use Rattle.float.proofs.Equal.{eq-same}
use Rattle.float.proofs.Mirror.{r-same, rel-equal, rel-nan}
use Rattle.float.proofs.Zeros.{eq_comm}
use Rattle.float.specs.Same.{Opposite, Same}
use Rattle.lines.specs.Compare.{same_number}

nan_is : (x : Float) → is_nan x ≡ true → x ≡ nan
unfolding is_nan
nan_is nan e = refl
nan_is (inf s) e = absurd (true≢false (sym e))
nan_is (fin s m e) h = absurd (true≢false (sym h))

-- what is no NaN equals itself
equals_itself : (x : Float) → is_nan x ≡ false → ne x x ≡ false
unfolding ne
equals_itself x e = ap not (rel-equal (r-same x) e)

unequal-nan : (x : Float) → ne x x ≡ true → x ≡ nan
unequal-nan x h = go (is_nan x) refl
  where
    go : (b : Bool) → is_nan x ≡ b → x ≡ nan
    go true e = nan_is x e
    go false e = absurd (true≢false (sym h ∙ equals_itself x e))

both-nan : same_number nan nan ≡ true
unfolding same_number ne eq
both-nan = refl

pub same-holds : {x y : Float} → Same x y → same_number x y ≡ true
unfolding same_number
same-holds {x} {y} h = go (is_nan x) refl
  where
    go : (b : Bool) → is_nan x ≡ b → cond (ne x x) (ne y y) (eq x y) ≡ true
    go true e = rw (nan_is x e, nan_is y (rel-nan h ∙ e)) both-nan
    go false e = rw (equals_itself x e) (eq_comm x y ∙ rel-equal h e)

pub opposite-holds : {x y : Float} → Opposite x y → same_number (neg x) y ≡ true
opposite-holds h = same-holds (record { same = h.same })

-- of 32-bit floats, which both are by their type
abbrev pub SameFloat : Float → Float → Type 0
SameFloat x y = T (fits binary32 x) → T (fits binary32 y) → Same x y

abbrev pub OppositeFloat : Float → Float → Type 0
OppositeFloat x y = T (fits binary32 x) → T (fits binary32 y) → Opposite x y

pub is_same : {x y : Float} → same_number x y ≡ true → SameFloat x y
unfolding same_number
is_same {x} {y} h p q = go (ne x x) refl h
  where
    go : (b : Bool) → ne x x ≡ b → cond b (ne y y) (eq x y) ≡ true → Same x y
    go true e k = rw (unequal-nan x e, unequal-nan y k) (r-same nan)
    go false e k = record { same = eq-same binary32 x y p q k }

pub is-opposite : {x y : Float} → same_number (neg x) y ≡ true → OppositeFloat x y
is-opposite {x} {y} h p q = record { same = (is_same h (neg-fits binary32 x p) q).same }

-- What an operation gives on an interval lies between what it gives at the interval's ends. Assumes nothing.
use Rattle.std.proofs.Common.{◌≡◌, ℕ, ◌+◌, ◌*◌, Bool, true, false, cond, not, T, sym, refl, subst, mul-pos, arith}
use lib.Ieee.{Float, Format, add, div, fits, is_nan, le, lt, mul, sub}
use lib.Ieee.Bits.{is_false}
use lib.Ieee.Positive.{den, den_pos, positive}
use lib.Ieee.Scale.{finite}
use Rattle.float.proofs.Exact.{rounds-ge, rounds-le}
use Rattle.float.proofs.Order.{Cross, finite-between, finite_number, le-self, le-trans-float, le→not-lt, nn, not-lt→le, pp}
use Rattle.float.proofs.Rounding.{add-mono-l, add-mono-r, div-rounds, divide-mono, mul-anti-r, mul-mono-l, mul-mono-r}
use Rattle.float.proofs.Rounding.{mul-rounds, no_minus, no_plus, pp-pos, sub-mono}
use Rattle.float.proofs.Zeros.{le-num}
use Rattle.float.specs.Interval.{Within}
use Rattle.float.specs.Notation.{clamp, zero}
use Rattle.float.specs.Same.{num}

-- ---- the products' signs
pub mul-not-neg : (f : Format) (x y : Float) → T (finite x) → T (finite y) → T (le zero x) → T (le zero y) → T (fits f zero) → T (le zero (mul f x y))
mul-not-neg f x y p q h k z =
    rounds-ge f (mul f x y) zero (pp x * pp y + nn x * nn y) (pp x * nn y + nn x * pp y) (den x * den y) tt z (mul-pos (den_pos x) (den_pos y))
    (mul-rounds f x y p q)
    (flat (pp x) (nn x) (pp y) (nn y) (den x * den y) (no_minus x p h) (no_minus y q k))
  where
    flat : (a b c d e : ℕ) → b ≡ 0 → d ≡ 0 → Cross 0 0 1 (a * c + b * d) (a * d + b * c) e
    flat a b c d e x y = rw (x, y) (omega arith)

pub mul-not-pos : (f : Format) (x y : Float) → T (finite x) → T (finite y) → T (le x zero) → T (le zero y) → T (fits f zero) → T (le (mul f x y) zero)
mul-not-pos f x y p q h k z =
    rounds-le f (mul f x y) zero (pp x * pp y + nn x * nn y) (pp x * nn y + nn x * pp y) (den x * den y) tt z (mul-pos (den_pos x) (den_pos y))
    (mul-rounds f x y p q)
    (flat (pp x) (nn x) (pp y) (nn y) (den x * den y) (no_plus x p h) (no_minus y q k))
  where
    flat : (a b c d e : ℕ) → a ≡ 0 → d ≡ 0 → Cross (a * c + b * d) (a * d + b * c) e 0 0 1
    flat a b c d e x y = rw (x, y) (omega arith)

pub within-finite : (lo hi x : Float) → T (finite lo) → T (finite hi) → Within lo hi x → T (finite x)
within-finite lo hi x p q w = finite-between lo x hi p q w.at_least w.at_most

pub within_wider : (lo hi lo' hi' x : Float) → T (le lo' lo) → T (le hi hi') → Within lo hi x → Within lo' hi' x
within_wider lo hi lo' hi' x p q w = record { at_least = le-trans-float lo' lo x p w.at_least; at_most = le-trans-float x hi hi' w.at_most q }

-- ---- the operations on intervals
pub add-in : (f : Format) (c lo hi x : Float) → T (finite c) → T (finite lo) → T (finite hi) → Within lo hi x → Within (add f c lo) (add f c hi) (add f c x)
add-in f c lo hi x p q r w =
    let z = within-finite lo hi x q r w in
    record { at_least = add-mono-r f c lo x p q z w.at_least; at_most = add-mono-r f c x hi p z r w.at_most }

pub plus-in : (f : Format) (c lo hi x : Float) → T (finite c) → T (finite lo) → T (finite hi) → Within lo hi x → Within (add f lo c) (add f hi c) (add f x c)
plus-in f c lo hi x p q r w =
    let z = within-finite lo hi x q r w in
    record { at_least = add-mono-l f lo x c q z p w.at_least; at_most = add-mono-l f x hi c z r p w.at_most }

pub sub_in : (f : Format) (c lo hi x : Float) → T (finite c) → T (finite lo) → T (finite hi) → Within lo hi x → Within (sub f lo c) (sub f hi c) (sub f x c)
sub_in f c lo hi x p q r w =
    let z = within-finite lo hi x q r w in
    record { at_least = sub-mono f lo x c c q z p p w.at_least (le-self c p); at_most = sub-mono f x hi c c z r p p w.at_most (le-self c p) }

pub from_in : (f : Format) (c lo hi x : Float) → T (finite c) → T (finite lo) → T (finite hi) → Within lo hi x → Within (sub f c hi) (sub f c lo) (sub f c x)
from_in f c lo hi x p q r w =
    let z = within-finite lo hi x q r w in
    record { at_least = sub-mono f c c hi x p p r z (le-self c p) w.at_most; at_most = sub-mono f c c x lo p p z q (le-self c p) w.at_least }

-- by a factor c that is not negative
pub scale_in : (f : Format) (c lo hi x : Float) → T (finite c) → T (le zero c) → T (finite lo) → T (finite hi) → Within lo hi x
    → Within (mul f lo c) (mul f hi c) (mul f x c)
scale_in f c lo hi x p o q r w =
    let z = within-finite lo hi x q r w in
    record { at_least = mul-mono-l f lo x c q z p o w.at_least; at_most = mul-mono-l f x hi c z r p o w.at_most }

-- r from rl ≤ 0 to rh ≥ 0, and q from 0 to qh
pub mul_in : (f : Format) (rl rh r qh q : Float) → T (finite rl) → T (finite rh) → T (finite qh) → T (le rl zero) → T (le zero rh) → Within rl rh r
    → Within zero qh q → Within (mul f rl qh) (mul f rh qh) (mul f r q)
mul_in f rl rh r qh q a b c l h w v =
    let x = within-finite rl rh r a b w in
    let y = within-finite zero qh q tt c v in
    record {
      at_least =
          le-trans-float (mul f rl qh) (mul f rl q) (mul f r q) (mul-anti-r f rl qh q a c y l v.at_most)
          (mul-mono-l f rl r q a x y v.at_least w.at_least);
      at_most =
          le-trans-float (mul f r q) (mul f rh q) (mul f rh qh) (mul-mono-l f r rh q x b y v.at_least w.at_most)
          (mul-mono-r f rh q qh b y c h v.at_most);
    }

-- x from 0 to xh, and y from yl > 0
pub div-not-neg : (f : Format) (x y : Float) → T (finite x) → T (positive y) → T (le zero x) → T (fits f zero) → T (le zero (div f x y))
div-not-neg f x y p q o z =
    rounds-ge f (div f x y) zero (pp x * den y) (nn x * den y) (pp y * den x) tt z (mul-pos (pp-pos y q) (den_pos x)) (div-rounds f x y p q)
    (flat (pp x * den y) (nn x) (den y) (pp y * den x) (no_minus x p o))
  where
    flat : (a n d c : ℕ) → n ≡ 0 → Cross 0 0 1 a (n * d) c
    flat a n d c e = rw e (omega arith)

pub div-in : (f : Format) (xh x yl y : Float) → T (finite xh) → T (positive yl) → T (positive y) → T (fits f zero) → Within zero xh x → T (le yl y)
    → Within zero (div f xh yl) (div f x y)
div-in f xh x yl y p q r z w h =
    let x-fin = within-finite zero xh x tt p w in
    record {
      at_least = div-not-neg f x y x-fin r w.at_least z;
      at_most = divide-mono f x xh y yl x-fin p r q w.at_least (le-trans-float zero x xh w.at_least w.at_most) w.at_most h;
    }

-- the sign of a zero does not matter
pub within-num : {lo hi x y : Float} → num x ≡ num y → Within lo hi y → Within lo hi x
within-num {lo} {hi} {x} {y} e w =
    record { at_least = subst T (sym (le-num lo lo x y refl e)) w.at_least; at_most = subst T (sym (le-num x y hi hi e refl)) w.at_most }

-- what is clamped lies between the bounds
pub clamp-in : (lo hi x : Float) → T (finite lo) → T (finite hi) → T (le lo hi) → T (not (is_nan x)) → Within lo hi (clamp lo hi x)
unfolding clamp
clamp-in lo hi x p q m n = go (lt x lo) (lt hi x) (not-lt→le x lo n (finite_number lo p)) (not-lt→le hi x (finite_number hi q) n)
  where
    go : (a b : Bool) → (T (not a) → T (le lo x)) → (T (not b) → T (le x hi)) → Within lo hi (cond a lo (cond b hi x))
    go true b h k = record { at_least = le-self lo p; at_most = m }
    go false true h k = record { at_least = m; at_most = le-self hi q }
    go false false h k = record { at_least = h tt; at_most = k tt }

-- what lies between them already stays as it is
pub clamp-same : (lo hi x : Float) → T (finite lo) → T (finite hi) → Within lo hi x → clamp lo hi x ≡ x
unfolding clamp
clamp-same lo hi x p q w =
    let f = within-finite lo hi x p q w in
    rw (is_false (lt x lo) (le→not-lt x lo f p w.at_least), is_false (lt hi x) (le→not-lt hi x q f w.at_most))

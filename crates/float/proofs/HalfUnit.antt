-- A rounded value is above its fraction by no more than half a unit in the last place. Assumes nothing.
use Rattle.std.proofs.Common.{◌≡◌, ℕ, suc, ◌+◌, ◌-◌, ◌*◌, ◌/◌, ◌%◌, ◌^◌, ◌<◌, ◌≤◌, not, T, subst, le_trans, mul-le-mul_right, div-lt_iff_lt-mul, mul-le-mul_left, div-add-mod', arith, eqb→eq, pow_mono}
use Prim.Native.Nat.{Ordering, compare}
use lib.Dec.{compare_is_eq, is_le, nleb→lt}
use lib.Ieee.{Format, low, nearest, prec, size}
use lib.Ieee.Digits.{size-le}
use lib.Ieee.Nearest.{closest}
use lib.Ieee.Order.{drop, kept}
use lib.Ieee.Scale.{grid}

tie : (q u : ℕ) → (q + q % 2) * u ≤ q * u + u
tie q u = le_trans (mul-le-mul_right u (one q)) (omega arith)
  where
    one : (q : ℕ) → q + q % 2 ≤ q + 1
    one q = omega arith

closest-near : (n u : ℕ) → closest n u * u * 2 ≤ n * 2 + u
closest-near n u =
    subst (λ (z : ℕ). closest n u * u * 2 ≤ z * 2 + u) (div-add-mod' n u) (go (compare (n % u * 2) u) (nleb→lt (n % u * 2) u) (eqb→eq (n % u * 2) u))
  where
    go : (o : Ordering) → (T (not (is_le o)) → u < n % u * 2) → (T (compare_is_eq o) → n % u * 2 ≡ u) → nearest (n / u) o * u * 2 ≤ (n / u * u + n % u) * 2 + u
    go Ordering.lt h k = below (n / u * u) (n % u) u
      where
        below : (a r u : ℕ) → a * 2 ≤ (a + r) * 2 + u
        below a r u = omega arith
    go Ordering.eq h k = at ((n / u + n / u % 2) * u) (n / u * u) (n % u) (tie (n / u) u) (k tt)
      where
        at : (b a r : ℕ) → b ≤ a + u → r * 2 ≡ u → b * 2 ≤ (a + r) * 2 + u
        at b a r x y = omega arith
    go Ordering.gt h k = past (n / u) (n % u) (h tt)
      where
        past : (q r : ℕ) → u < r * 2 → suc q * u * 2 ≤ (q * u + r) * 2 + u
        past q r x = omega arith

spare : (z p k : ℕ) → z ≤ p + k → z - p ≤ k
spare z p k h = omega arith

-- a / c below 2 ^ (prec + k) units rounds to a value that is above it by half of 2 ^ k units at most
pub grid-near : (f : Format) (a c k : ℕ) → 0 < c → a * 2 ^ low f < 2 ^ (prec f + k) * c → grid f a c * c * 2 ≤ a * 2 ^ low f * 2 + c * 2 ^ k
grid-near f a c k C h =
    let n = a * 2 ^ low f in
    let j = drop (prec f) n c in
    let few : j ≤ k = spare (size (n / c)) (prec f) k (size-le (n / c) (prec f + k) ((div-lt_iff_lt-mul C).1 h)) in
    step (kept (prec f) n c) (2 ^ j) n (2 ^ k) (closest-near n (c * 2 ^ j)) (pow_mono few)
  where
    step : (q u n v : ℕ) → q * (c * u) * 2 ≤ n * 2 + c * u → u ≤ v → q * u * c * 2 ≤ n * 2 + c * v
    step q u n v x y = omega (arith, x, mul-le-mul_left c y)

-- The entries of the table of powers: what each is, at which index an exponent's power stands, that exp reads each of them,
-- and that exp answers what it did when the power was made from its bits, for every argument. Assumes nothing.
use Prim.Native.Nat.{◌*◌, ◌+◌, ◌-◌, ◌<◌, suc, ℕ}
use lib.Dec.{leb→le}
use lib.Ieee.{Float, add, binary32, fin, inf, le, lt, minus, mul, nan, ne, neg, of_bits, of_int, round, sub, to_signed}
use lib.Ieee.Bits.{is_false}
use lib.IntN.{◌+ℤ◌, nat_abs, negsuc, pos, ℤ}
use lib.ListN.{get_or}
use mathlib.Core.Bool.{cond, false, true}
use mathlib.Core.Path.{◌∙◌, ◌≡◌, ap, refl, sym}
use native.Mathlib.Omega.{arith}
use Rattle.float.proofs.Bounds.{inside-within}
use Rattle.float.proofs.Differences.{minus-down, minus-up, sub-minus}
use Rattle.float.proofs.Lists.{list_of-at, same_at}
use Rattle.float.proofs.Mirror.{by-test}
use Rattle.float.specs.Interval.{Within, inside}
use Rattle.float.specs.Lists.{list_from, list_of}
use Rattle.float.specs.Notation.{◌⊗◌, clamp, zero}
use Rattle.libm.proofs.Exponents.{tested, exponent-in}
use Rattle.libm.specs.Promises.{Exponent}
use Rattle.libm.specs.Exp.{core, exp_of, highest, ln2_high, lowest, near_down, near_up, poly, rest, binary_exponent}
use Rattle.libm.specs.Powers.{power_at, power_count, powers_of_two}

-- ---- the table, computed once: the power of entry i has i + 1 in the field of the exponent, and no digits
pub patterns : powers_of_two ≡ list_of (λ (i : ℕ). of_bits binary32 (suc i * 8388608)) power_count
unfolding powers_of_two power_at list_of list_from of_bits
patterns = refl

-- ---- entry i of the table is the power that i says
pub entry : (i : ℕ) → i < power_count → get_or powers_of_two i nan ≡ power_at i
unfolding powers_of_two
entry i h = list_of-at nan power_at power_count i h

-- ---- the index of an exponent k, k + 126
pub record Index (k z : ℤ) : Type 0 where
  pub i : ℕ
  pub is : z ≡ pos i
  pub below : i < power_count
  pub power : power_at i ≡ fin false 1 k
  biased : nat_abs (k +ℤ pos 127) ≡ suc i

pub index_of : (k : ℤ) → Exponent k → Index k (k +ℤ pos 126)
unfolding power_at
index_of (pos a) e =
    let b = leb→le a 127 e.at_most in
    record {
      i = a + 126;
      is = refl;
      below = omega arith;
      power = ap (λ (z : ℤ). fin false 1 z) (minus-up (a + 126) 126 (omega arith) ∙ ap pos {y = a} (omega arith));
      biased = omega arith;
    }
index_of (negsuc a) e =
    let b = leb→le a 125 e.at_least in
    record {
      i = 126 - suc a;
      is = sub-minus 126 (suc a) ∙ minus-up 126 (suc a) (omega arith);
      below = omega arith;
      power = ap (λ (z : ℤ). fin false 1 z) (minus-down (126 - suc a) 126 (omega arith) ∙ ap negsuc {y = a} (omega arith));
      biased = ap nat_abs (sub-minus 127 (suc a) ∙ minus-up 127 (suc a) (omega arith)) ∙ omega arith;
    }

-- ---- exp reads each entry: at (i - 126) * ln 2, held within -87 and 88, its binary exponent is i - 126
abbrev argument : ℕ → Float
argument i = clamp lowest highest (of_int binary32 (minus i 126) ⊗ ln2_high)

arguments-inside : list_of (λ (i : ℕ). inside lowest highest (argument i)) power_count ≡ list_of (λ (i : ℕ). true) power_count
unfolding list_of list_from inside clamp lt le mul of_int neg of_bits round
arguments-inside = refl

argument-exponent : list_of (λ (i : ℕ). binary_exponent (argument i)) power_count ≡ list_of (λ (i : ℕ). minus i 126) power_count
unfolding list_of list_from binary_exponent near_up near_down to_signed clamp lt le add sub mul of_int neg of_bits round
argument-exponent = refl

pub each_read : (i : ℕ) → i < power_count → Within lowest highest (argument i) × (binary_exponent (argument i) ≡ minus i 126)
each_read i h = (
  inside-within (same_at false (λ (i : ℕ). inside lowest highest (argument i)) (λ (i : ℕ). true) power_count arguments-inside i h),
  same_at (pos 0) (λ (i : ℕ). binary_exponent (argument i)) (λ (i : ℕ). minus i 126) power_count argument-exponent i h,
)

-- ---- exp answers as before, when 2 ^ k was made from its bits: k + 127 in the field of the exponent, and no digits
power-as-before : (k : ℤ) → Exponent k → fin false 1 k ≡ of_bits binary32 (nat_abs (k +ℤ pos 127) * 8388608)
unfolding powers_of_two
power-as-before k e =
    let p = index_of k e in
    sym p.power ∙ same_at nan power_at (λ (i : ℕ). of_bits binary32 (suc i * 8388608)) power_count patterns p.i p.below
    ∙ ap (λ (n : ℕ). of_bits binary32 (n * 8388608)) (sym p.biased)

-- of an argument from -87 to 88
within-as-before : (x : Float) → Within lowest highest x
    → core x (binary_exponent x) ≡ poly (rest x (binary_exponent x)) ⊗ of_bits binary32 (nat_abs (binary_exponent x +ℤ pos 127) * 8388608)
unfolding core
within-as-before x w = ap (λ (p : Float). poly (rest x (binary_exponent x)) ⊗ p) (power-as-before (binary_exponent x) (exponent-in x w))

-- of every argument
abbrev pub exp_before : Float → Float
exp_before x =
    cond (ne x x) nan
    (cond (lt x lowest) zero
    (cond (lt highest x) (inf false)
    (poly (rest x (binary_exponent x)) ⊗ of_bits binary32 (nat_abs (binary_exponent x +ℤ pos 127) * 8388608))))

pub exp-as-before : (x : Float) → exp_of x ≡ exp_before x
unfolding exp_of
exp-as-before x =
    by-test ◌≡◌ (ne x x) (ne x x) refl (λ n. refl)
    (λ n. by-test ◌≡◌ (lt x lowest) (lt x lowest) refl (λ l. refl)
    (λ l. by-test ◌≡◌ (lt highest x) (lt highest x) refl (λ h. refl)
    (λ h. within-as-before x (tested x (is_false _ n) (is_false _ l) (is_false _ h)))))

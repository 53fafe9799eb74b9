-- ln (02, 4). Definitions only.
use Rattle.std.specs.Prelude.{◌-◌, suc, zero, ℕ, Float, ◌+ℤ◌, pos, ℤ, cond, false, true}
use Rattle.std.specs.Float.{binary32, fin, inf, nan}
use Rattle.std.specs.Float.Ieee.{lt, minus, of_int, size}
use Rattle.float.specs.Notation.{◌⊕◌, ◌⊖◌, ◌⊗◌, ◌⊘◌, one, rounded, two}
use Rattle.libm.specs.Exp.{horner}

-- ---- a number above 0 is m · 2 ^ n for one n only with 0.70710677 ≤ m < 2 · 0.70710677
abbrev pub least : Float
least = rounded 70710677 100000000

-- By how many binary digits w is lowered to become m. Lowered by as many as it has digits it lies from 1 / 2 to below 1; under 0.70710677
-- that is one too many.
unfoldable pub shift : ℕ → ℕ
shift w = cond (lt (fin false w (minus 0 (size w))) least) (size w - 1) (size w)

-- m, and n; neither is asked of anything but a number above 0
unfoldable pub mantissa_of : Float → Float
mantissa_of nan = nan
mantissa_of (inf s) = inf s
mantissa_of (fin s w e) = fin s w (minus 0 (shift w))

unfoldable pub exponent_of : Float → ℤ
exponent_of nan = pos 0
exponent_of (inf s) = pos 0
exponent_of (fin s w e) = e +ℤ pos (shift w)

-- ---- ln m is 2 · s · (1 + z · (1/3 + z · (1/5 + z · (1/7 + z/9)))) with s = (m - 1) / (m + 1) and z = s · s
unfoldable pub log_series : Float → Float
log_series z = horner z one (horner z (rounded 1 3) (horner z (rounded 1 5) (rounded 1 7 ⊕ z ⊘ rounded 9 1)))

unfoldable pub ratio : Float → Float
ratio m = (m ⊖ one) ⊘ (m ⊕ one)

unfoldable pub ln_near : Float → Float
ln_near m = two ⊗ ratio m ⊗ log_series (ratio m ⊗ ratio m)

-- ---- and n times ln 2 is added
abbrev pub ln2 : Float
ln2 = rounded 6931472 10000000

unfoldable pub ln_of_parts : Float → ℤ → Float
ln_of_parts m n = ln_near m ⊕ of_int binary32 n ⊗ ln2

-- 02 takes it of numbers above 0 alone. Here 0 has -∞, ∞ has ∞, and what is below 0 has none.
unfoldable pub ln_of : Float → Float
ln_of nan = nan
ln_of (inf true) = nan
ln_of (inf false) = inf false
ln_of (fin s zero e) = inf true
ln_of (fin true (suc w) e) = nan
ln_of (fin false (suc w) e) = ln_of_parts (mantissa_of (fin false (suc w) e)) (exponent_of (fin false (suc w) e))

-- What a formula needs of the numbers it is read in, and two readings: 32-bit floats, each operation rounded once, and any exact field
-- in which 2 is not 0, as the real numbers are. Definitions only.
use Prim.Native.Nat as Nat
use Rattle.std.specs.Prelude.{suc, ℕ, Float, cond, ◌≢◌, ◌≡◌}
use Rattle.std.specs.Float.Ieee.{lt, ne, neg}
use Rattle.std.specs.Float.{nan}
use mathlib.Mathlib.Algebra.Ring.Defs.{CommRing}
use Rattle.float.specs.Notation.{◌⊕◌, ◌⊖◌, ◌⊗◌, ◌⊘◌, one, rounded, zero}
use Rattle.libm.specs.Atan.{pi}
use Rattle.libm.specs.Exp.{exp_of}
use Rattle.libm.specs.Trig.{cos_of, sin_of}

pub record Numbers (K : Type 0) : Type 0 where
  infixl 65 ◌+◌
  infixl 65 ◌-◌
  infixl 70 ◌*◌
  infixl 70 ◌/◌
  infix 75 -◌
  pub ◌+◌ : K → K → K
  pub ◌-◌ : K → K → K
  pub ◌*◌ : K → K → K
  pub ◌/◌ : K → K → K
  pub -◌ : K → K
  pub whole : ℕ → K
  pub π : K
  pub exp : K → K
  pub sin : K → K
  pub cos : K → K
  pub sign : K → K

-- the same numbers, the exponential's argument first held in a range by `hold`
abbrev pub held : {K : Type 0} → (K → K) → Numbers K → Numbers K
held hold 𝓝 = record {
  ◌+◌ = 𝓝.◌+◌;
  ◌-◌ = 𝓝.◌-◌;
  ◌*◌ = 𝓝.◌*◌;
  ◌/◌ = 𝓝.◌/◌;
  -◌ = 𝓝.-◌;
  whole = 𝓝.whole;
  π = 𝓝.π;
  exp = λ x. 𝓝.exp (hold x);
  sin = 𝓝.sin;
  cos = 𝓝.cos;
  sign = 𝓝.sign;
}

-- ---- 32-bit floats
-- the sign: 1 or -1; a NaN's is a NaN. The Rust's `signum` is -1 for -0, where this is 1: times sin²α = 0, that moves only a zero's sign
unfoldable pub sign_of : Float → Float
sign_of x = cond (lt x zero) (neg one) (cond (ne x x) nan one)

abbrev pub floats : Numbers Float
floats = record {
  ◌+◌ = ◌⊕◌;
  ◌-◌ = ◌⊖◌;
  ◌*◌ = ◌⊗◌;
  ◌/◌ = ◌⊘◌;
  -◌ = neg;
  whole = λ n. rounded n 1;
  π = pi;
  exp = exp_of;
  sin = sin_of;
  cos = cos_of;
  sign = sign_of;
}

-- ---- an exact field
-- n as 1 + 1 + ..
unfoldable pub count : {K : Type 0} → CommRing K → ℕ → K
count 𝓡 Nat.zero = 𝓡.zero
count 𝓡 (suc n) = 𝓡.add (count 𝓡 n) 𝓡.one

pub record Field (K : Type 0) : Type 0 where
  pub ring : CommRing K
  pub inverse : K → K
  pub inverts : (x : K) → x ≢ ring.zero → ring.mul x (inverse x) ≡ ring.one
  pub two-not-zero : count ring 2 ≢ ring.zero

-- π, exponential, sine, cosine and sign may be any: no law turns on what they are
pub record Functions (K : Type 0) : Type 0 where
  pub π : K
  pub exp : K → K
  pub sin : K → K
  pub cos : K → K
  pub sign : K → K

abbrev pub exactly : {K : Type 0} → Field K → Functions K → Numbers K
exactly 𝓕 functions = record {
  ◌+◌ = 𝓕.ring.add;
  ◌-◌ = λ x y. 𝓕.ring.add x (𝓕.ring.neg y);
  ◌*◌ = 𝓕.ring.mul;
  ◌/◌ = λ x y. 𝓕.ring.mul x (𝓕.inverse y);
  -◌ = 𝓕.ring.neg;
  whole = count 𝓕.ring;
  π = functions.π;
  exp = functions.exp;
  sin = functions.sin;
  cos = functions.cos;
  sign = functions.sign;
}

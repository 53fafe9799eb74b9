-- Writing a number, a vector or the slots' numbers and reading them again gives them back, and leaves what stands before them as it
-- was. Assumes nothing.
use Prim.Native.Nat.{◌%◌, ◌*◌, ◌+◌, ◌/◌, ◌<◌, ◌≤◌, suc, zero, ℕ}
use lib.Dec.{T}
use lib.Ieee.{Float, binary32, fits, nan, of_bits, to_bits}
use lib.Ieee.Bits.{of_bits-fits, of_bits-to_bits, to_bits-lt}
use lib.ListN.{length, length-set, set}
use lib.Seq.{ext_get_or, get_or-set_other, get_or-set_same}
use mathlib.Core.List.{List, []}
use mathlib.Core.Logic.{◌⊎◌, inl, inr}
use mathlib.Core.Path.{◌∙◌, ◌≡◌, ap, refl, subst, sym}
use native.Mathlib.Nat.{add-zero, eq-or-lt_of_le}
use native.Mathlib.Omega.{arith}
use Rattle.float.specs.Bytes.{byte_at, put, word}
use Rattle.mixers.proofs.Slots.{slots_at}
use Rattle.mixers.specs.Slots.{at, slots}
use Rattle.vector.specs.declared.Vec3.{Vec3}
use Rattle.block_parts.proofs.Writing.{length-put_float, length-put_floats}
use Rattle.block_parts.specs.Parts.{float_at, floats_from, put_float, put_floats, put_vec, slot_from, vec_from}

-- ---- four bytes

-- s with the first byte put, the first two, the first three
abbrev put1 : List ℕ → ℕ → ℕ → List ℕ
put1 s i n = set s i (n / 16777216 % 256)

abbrev put2 : List ℕ → ℕ → ℕ → List ℕ
put2 s i n = set (put1 s i n) (i + 1) (n / 65536 % 256)

abbrev put3 : List ℕ → ℕ → ℕ → List ℕ
put3 s i n = set (put2 s i n) (i + 2) (n / 256 % 256)

-- a byte before the four that are put
byte-before : (s : List ℕ) (i n k : ℕ) → k < i → byte_at (put s i n) k ≡ byte_at s k
byte-before s i n k l =
    get_or-set_other (put3 s i n) (i + 3) k (n % 256) 0 (λ e. off 3 e)
    ∙ get_or-set_other (put2 s i n) (i + 2) k (n / 256 % 256) 0 (λ e. off 2 e)
    ∙ get_or-set_other (put1 s i n) (i + 1) k (n / 65536 % 256) 0 (λ e. off 1 e)
    ∙ get_or-set_other s i k (n / 16777216 % 256) 0 (λ e. off 0 (e ∙ sym (add-zero i)))
  where
    off : (m : ℕ) → k ≡ i + m → ⊥
    off m e = omega arith

-- the number that stands four bytes or more before the place of a put is as it was
word-put-other : (s : List ℕ) (i n j : ℕ) → j + 4 ≤ i → word (put s i n) j ≡ word s j
word-put-other s i n j l =
    let b = byte-before s i n in
    simp (b j (omega arith), b (j + 1) (omega arith), b (j + 2) (omega arith), b (j + 3) (omega arith))

-- a number below 2^32 is what its four bytes say
four_bytes : (n : ℕ) → n < 4294967296 → n / 16777216 % 256 * 16777216 + n / 65536 % 256 * 65536 + n / 256 % 256 * 256 + n % 256 ≡ n
four_bytes n h =
    let a : n / 256 / 256 ≡ n / 65536 = omega arith in
    let b : n / 65536 / 256 ≡ n / 16777216 = omega arith in
    let e : n / 16777216 % 256 ≡ n / 16777216 = omega arith in
    let x : n / 65536 / 256 * 256 + n / 65536 % 256 ≡ n / 65536 = omega arith in
    let y : n / 256 / 256 * 256 + n / 256 % 256 ≡ n / 256 = omega arith in
    let z : n / 256 * 256 + n % 256 ≡ n = omega arith in
    omega arith

module _ (s : List ℕ) (i n : ℕ) (l : i + 4 ≤ length s) where
  first : byte_at (put s i n) i ≡ n / 16777216 % 256
  first =
      get_or-set_other (put3 s i n) (i + 3) i (n % 256) 0 (λ e. off 2 e)
      ∙ get_or-set_other (put2 s i n) (i + 2) i (n / 256 % 256) 0 (λ e. off 1 e)
      ∙ get_or-set_other (put1 s i n) (i + 1) i (n / 65536 % 256) 0 (λ e. off 0 e)
      ∙ get_or-set_same s i (n / 16777216 % 256) 0 (omega arith)
    where
      off : (m : ℕ) → i ≡ i + suc m → ⊥
      off m e = omega arith

  second : byte_at (put s i n) (i + 1) ≡ n / 65536 % 256
  second =
      get_or-set_other (put3 s i n) (i + 3) (i + 1) (n % 256) 0 (λ e. off 1 e)
      ∙ get_or-set_other (put2 s i n) (i + 2) (i + 1) (n / 256 % 256) 0 (λ e. off 0 e)
      ∙ get_or-set_same (put1 s i n) (i + 1) (n / 65536 % 256) 0 (simp length-set (omega arith))
    where
      off : (m : ℕ) → i + 1 ≡ i + suc (suc m) → ⊥
      off m e = omega arith

  third : byte_at (put s i n) (i + 2) ≡ n / 256 % 256
  third =
      get_or-set_other (put3 s i n) (i + 3) (i + 2) (n % 256) 0 (λ e. off e)
      ∙ get_or-set_same (put2 s i n) (i + 2) (n / 256 % 256) 0 (simp length-set (omega arith))
    where
      off : i + 2 ≡ i + 3 → ⊥
      off e = omega arith

  fourth : byte_at (put s i n) (i + 3) ≡ n % 256
  fourth = get_or-set_same (put3 s i n) (i + 3) (n % 256) 0 (simp length-set (omega arith))

  -- what is put is what is read there
  word-put-same : n < 4294967296 → word (put s i n) i ≡ n
  word-put-same h = simp (first, second, third, fourth) (four_bytes n h)

-- ---- a number

pub float-before : (s : List ℕ) (i : ℕ) (x : Float) (j : ℕ) → j + 4 ≤ i → float_at (put_float s i x) j ≡ float_at s j
unfolding float_at put_float
float-before s i x j l = ap (of_bits binary32) (word-put-other s i (to_bits binary32 x) j l)

pub float_same : (s : List ℕ) (i : ℕ) (x : Float) → i + 4 ≤ length s → T (fits binary32 x) → float_at (put_float s i x) i ≡ x
unfolding float_at put_float
float_same s i x l h = ap (of_bits binary32) (word-put-same s i (to_bits binary32 x) l (to_bits-lt binary32 x h)) ∙ of_bits-to_bits binary32 x h

-- ---- a vector

pub vec-before : (s : List ℕ) (i : ℕ) (v : Vec3) (j : ℕ) → j + 4 ≤ i → float_at (put_vec s i v) j ≡ float_at s j
unfolding put_vec
vec-before s i v j l = float-before _ (i + 8) v.z j (omega arith) ∙ float-before _ (i + 4) v.y j (omega arith) ∙ float-before s i v.x j l

-- three numbers that 32 bits hold
pub record VecFits (v : Vec3) : Type 0 where
  pub x_fits : T (fits binary32 v.x)
  pub y-fits : T (fits binary32 v.y)
  pub z-fits : T (fits binary32 v.z)

pub vec-same : (s : List ℕ) (i : ℕ) (v : Vec3) → i + 12 ≤ length s → VecFits v → vec_from (put_vec s i v) i ≡ v
unfolding vec_from put_vec
vec-same s i v l h =
    let a = put_float s i v.x in
    let b = put_float a (i + 4) v.y in
    let la : length a ≡ length s = length-put_float s i v.x in
    let lb : length b ≡ length a = length-put_float a (i + 4) v.y in
    simp (
      float-before b (i + 8) v.z i (omega arith),
      float-before a (i + 4) v.y i (omega arith),
      float_same s i v.x (omega arith) h.x_fits,
      float-before b (i + 8) v.z (i + 4) (omega arith),
      float_same a (i + 4) v.y (omega arith) h.y-fits,
      float_same b (i + 8) v.z (omega arith) h.z-fits,
    )

-- ---- the slots

pub record SlotsFit (xs : List Float) : Type 0 where
  pub eight : length xs ≡ 8
  pub fit : (k : ℕ) → k < 8 → T (fits binary32 (at xs k))

pub slots-before : (s : List ℕ) (i : ℕ) (xs : List Float) (n j : ℕ) → j + 4 ≤ i → float_at (put_floats s i xs n) j ≡ float_at s j
unfolding put_floats
slots-before s i xs zero j l = refl
slots-before s i xs (suc n) j l = float-before _ (i + 4 * n) (at xs n) j (omega arith) ∙ slots-before s i xs n j l

slot_same :
    (s : List ℕ) (i : ℕ) (xs : List Float) (n k : ℕ) → n ≤ 8 → i + 32 ≤ length s → SlotsFit xs → k < n
    → float_at (put_floats s i xs n) (i + 4 * k) ≡ at xs k
unfolding put_floats
slot_same s i xs zero k g l h m = absurd (none k m)
  where
    none : (k : ℕ) → k < 0 → ⊥
    none k m = omega arith
slot_same s i xs (suc n) k g l h m = go (slot_same s i xs n k (omega arith) l h) (eq-or-lt_of_le (below m))
  where
    below : k < suc n → k ≤ n
    below m = omega arith

    go :
        (k < n → float_at (put_floats s i xs n) (i + 4 * k) ≡ at xs k) → (k ≡ n) ⊎ (k < n)
        → float_at (put_float (put_floats s i xs n) (i + 4 * n) (at xs n)) (i + 4 * k) ≡ at xs k
    go f (inl e) = rw e (float_same _ (i + 4 * n) (at xs n) (rw (length-put_floats s i xs n) (omega arith)) (h.fit n (omega arith)))
    go f (inr b) = float-before _ (i + 4 * n) (at xs n) (i + 4 * k) (omega arith) ∙ f b

pub slots_same : (s : List ℕ) (i : ℕ) (xs : List Float) → i + 32 ≤ length s → SlotsFit xs → floats_from (put_floats s i xs 8) i ≡ xs
unfolding floats_from slot_from
slots_same s i xs l h =
    let t = put_floats s i xs 8 in
    let each : (k : ℕ) → k < length xs → at (slots (slot_from t i)) k ≡ at xs k = λ k b.
    slots_at nan (slot_from t i) xs k (omega (arith, b, h.eight)) ∙ slot_same s i xs 8 k (omega arith) l h (omega (arith, b, h.eight)) in
    sym (ext_get_or nan xs (slots (slot_from t i)) h.eight (λ k b. sym (each k b)))

-- ---- what is written behind a part leaves it as it was

-- every number of t that ends before the byte n is as in s
abbrev pub Kept : List ℕ → List ℕ → ℕ → Type 0
Kept s t n = (j : ℕ) → j + 4 ≤ n → float_at t j ≡ float_at s j

pub vec_kept : (s t : List ℕ) (n j : ℕ) → Kept s t n → j + 12 ≤ n → vec_from t j ≡ vec_from s j
unfolding vec_from
vec_kept s t n j h l = simp (h j (omega arith), h (j + 4) (omega arith), h (j + 8) (omega arith))

pub slots_kept : (s t : List ℕ) (n j : ℕ) → Kept s t n → j + 32 ≤ n → floats_from t j ≡ floats_from s j
unfolding floats_from slot_from
slots_kept s t n j h l =
    simp (
      h (j + 0) (omega arith),
      h (j + 4) (omega arith),
      h (j + 8) (omega arith),
      h (j + 12) (omega arith),
      h (j + 16) (omega arith),
      h (j + 20) (omega arith),
      h (j + 24) (omega arith),
      h (j + 28) (omega arith),
    )

-- ---- what is read from bytes is of numbers that 32 bits hold

pub floats-fit : (s : List ℕ) (i : ℕ) → SlotsFit (floats_from s i)
unfolding floats_from slot_from float_at
floats-fit s i = record {
  eight = refl;
  fit = λ k l. subst (λ (x : Float). T (fits binary32 x)) (sym (slots_at nan (slot_from s i) [] k l)) (of_bits-fits binary32 _);
}

pub vec-fits : (s : List ℕ) (i : ℕ) → VecFits (vec_from s i)
unfolding vec_from float_at
vec-fits s i = record { x_fits = of_bits-fits binary32 _; y-fits = of_bits-fits binary32 _; z-fits = of_bits-fits binary32 _ }

-- Flipping the sign bit of the wind's east number in the bytes of a tick reflects the tick, and in those of each tick of a trace its
-- ticks (01, "Reflection negates"). Assumes nothing.
use Prim.Native.Nat.{◌%◌, ◌*◌, ◌+◌, ◌/◌, ◌<◌, ◌≤◌, suc, zero, ℕ}
use borrow.Author.Tests.{le-leb, lt-leb, ltb-false, ltb-true}
use lib.Dec.{eqb, leb, ltb}
use lib.Ieee.{Float, Format, binary32, hid, low, neg, odd, of_bits, of_fields, ones, prec}
use lib.ListN.{length, length-set, set}
use lib.Seq.{get_or-set_other, get_or-set_same}
use mathlib.Core.Bool.{Bool, cond, false, not, true}
use mathlib.Core.List.{List, [], ◌∷◌, map}
use mathlib.Core.Logic.{◌⊎◌, inl, inr}
use mathlib.Core.Path.{◌∙◌, ◌≡◌, ap, ap₂, refl, sym}
use native.Mathlib.Nat.{div-mul-le_self, eq-or-lt_of_le, le_of_suc-le-suc, le_refl}
use native.Mathlib.Omega.{arith}
use Rattle.block_parts.specs.Parts.{float_at, floats_from, number_bytes, slot_from, vec_from}
use Rattle.flight.specs.Reflection.{reflect_tick}
use Rattle.flight.specs.declared.Tick.{Tick}
use Rattle.float.proofs.Patterns.{of_bits_is}
use Rattle.float.specs.Bytes.{byte_at}
use Rattle.vector.specs.Reflection.{reflect_vec}
use Rattle.trace.specs.Reflection.{flip_sign, reflect_tick_bytes, reflect_to, reflect_trace}
use Rattle.trace.specs.Tick.{tick_bytes, tick_from, wind_at}
use Rattle.trace.specs.Trace.{tick_at, tick_count, ticks_from, ticks_of}

neg-odd : (d : ℕ) (s : Bool) (q k l : ℕ) → odd d (not s) q k l ≡ neg (odd d s q k l)
unfolding odd neg
neg-odd d s zero k l = refl
neg-odd d s (suc q) k l = refl

neg-cond : (t : Bool) (a b a' b' : Float) → a' ≡ neg a → b' ≡ neg b → cond t a' b' ≡ neg (cond t a b)
neg-cond true a b a' b' e h = e
neg-cond false a b a' b' e h = h

neg-of_fields : (f : Format) (s : Bool) (x t : ℕ) → of_fields f (not s) x t ≡ neg (of_fields f s x t)
unfolding of_fields neg
neg-of_fields f s zero t = neg-odd (prec f) s t 0 (low f)
neg-of_fields f s (suc x) t = neg-cond (eqb (suc x) (ones f)) _ _ _ _ (neg-cond (eqb t 0) _ _ _ _ refl refl) (neg-odd (prec f) s (hid f + t) x (low f))

-- ---- a word with its top bit flipped

neg-pattern : (w w' : ℕ) → leb 2147483648 w' ≡ not (leb 2147483648 w) → w' % 2147483648 ≡ w % 2147483648 → of_bits binary32 w' ≡ neg (of_bits binary32 w)
neg-pattern w w' e h =
    let g : w' % 8388608 ≡ w % 8388608 = omega arith in
    of_bits_is w' ∙ simp (e, h, g) (neg-of_fields binary32 (leb 2147483648 w) (w % 2147483648 / 8388608) (w % 8388608)) ∙ sym (ap neg (of_bits_is w))

-- b is the first of four bytes, r what the other three say
flipped_word : (b r : ℕ) → b < 256 → r < 16777216 → of_bits binary32 ((b + 128) % 256 * 16777216 + r) ≡ neg (of_bits binary32 (b * 16777216 + r))
flipped_word b r l m = go (ltb b 128) refl
  where
    go : (t : Bool) → ltb b 128 ≡ t → of_bits binary32 ((b + 128) % 256 * 16777216 + r) ≡ neg (of_bits binary32 (b * 16777216 + r))
    go true e =
        let h : b < 128 = ltb-true _ _ e in
        let f : 2147483648 ≤ (b + 128) % 256 * 16777216 + r = omega arith in
        let g : b * 16777216 + r < 2147483648 = omega arith in
        neg-pattern _ _ (le-leb _ _ f ∙ sym (ap not (lt-leb _ _ g))) (omega arith)
    go false e =
        let h : 128 ≤ b = ltb-false _ _ e in
        let f : (b + 128) % 256 * 16777216 + r < 2147483648 = omega arith in
        let g : 2147483648 ≤ b * 16777216 + r = omega arith in
        neg-pattern _ _ (lt-leb _ _ f ∙ sym (ap not (le-leb _ _ g))) (omega arith)

-- ---- in a list of bytes

-- each is below 256
abbrev pub Bytes : List ℕ → Type 0
Bytes s = (k : ℕ) → byte_at s k < 256

flip-same : (s : List ℕ) (p : ℕ) → p < length s → Bytes s → float_at (flip_sign s p) p ≡ neg (float_at s p)
unfolding float_at flip_sign
flip-same s p l h =
    let b0 = h p in
    let b1 = h (p + 1) in
    let b2 = h (p + 2) in
    let b3 = h (p + 3) in
    let r = byte_at s (p + 1) * 65536 + byte_at s (p + 2) * 256 + byte_at s (p + 3) in
    let v = (byte_at s p + 128) % 256 in
    simp (
      get_or-set_same s p v 0 l,
      get_or-set_other s p (p + 1) v 0 (λ e. off 0 e),
      get_or-set_other s p (p + 2) v 0 (λ e. off 1 e),
      get_or-set_other s p (p + 3) v 0 (λ e. off 2 e),
    )
    (ap (of_bits binary32) (omega arith) ∙ flipped_word (byte_at s p) r b0 (omega arith) ∙ ap (λ (w : ℕ). neg (of_bits binary32 w)) (omega arith))
  where
    off : (m : ℕ) → p + suc m ≡ p → ⊥
    off m e = omega arith

flip-other : (s : List ℕ) (p j : ℕ) → (j + 4 ≤ p) ⊎ (p < j) → float_at (flip_sign s p) j ≡ float_at s j
unfolding float_at flip_sign
flip-other s p j h =
    simp (
      at_other j (omega arith) (omega arith),
      at_other (j + 1) (omega arith) (omega arith),
      at_other (j + 2) (omega arith) (omega arith),
      at_other (j + 3) (omega arith) (omega arith),
    )
  where
    at_other : (q : ℕ) → j ≤ q → q < j + 4 → byte_at (set s p ((byte_at s p + 128) % 256)) q ≡ byte_at s q
    at_other q a b = get_or-set_other s p q _ 0 (λ e. off h e)
      where
        off : (j + 4 ≤ p) ⊎ (p < j) → q ≡ p → ⊥
        off (inl g) e = omega arith
        off (inr g) e = omega arith

slots-after : (s : List ℕ) (p i : ℕ) → p < i → floats_from (flip_sign s p) i ≡ floats_from s i
unfolding floats_from slot_from
slots-after s p i l = simp (at_slot 0, at_slot 4, at_slot 8, at_slot 12, at_slot 16, at_slot 20, at_slot 24, at_slot 28)
  where
    at_slot : (k : ℕ) → float_at (flip_sign s p) (i + k) ≡ float_at s (i + k)
    at_slot k = flip-other s p (i + k) (inr (omega arith))

-- the tick of the reflected bytes is the reflected tick
pub reflect-tick-bytes : (s : List ℕ) (i : ℕ) → i + 80 ≤ length s → Bytes s → tick_from (reflect_tick_bytes s i) i ≡ reflect_tick (tick_from s i)
unfolding tick_from reflect_tick_bytes reflect_tick reflect_vec vec_from
reflect-tick-bytes s i l h =
    let p = i + 4 + 4 in
    simp (
      flip-other s p i (inl (omega arith)),
      flip-other s p (i + 4) (inl (omega arith)),
      flip-same s p (omega arith) h,
      flip-other s p (i + 4 + 8) (inr (omega arith)),
      slots-after s p (i + 16) (omega arith),
      slots-after s p (i + 48) (omega arith),
    )

-- ---- a tick that the flipped byte does not stand in
module _ (s : List ℕ) (p i : ℕ) (h : (p < i) ⊎ (i + 80 ≤ p)) where
  float-other : (j : ℕ) → i ≤ j → j + 4 ≤ i + 80 → float_at (flip_sign s p) j ≡ float_at s j
  float-other j a b = flip-other s p j (side h)
    where
      side : (p < i) ⊎ (i + 80 ≤ p) → (j + 4 ≤ p) ⊎ (p < j)
      side (inl g) = inr (omega arith)
      side (inr g) = inl (omega arith)

  slots-other : (j : ℕ) → i ≤ j → j + 32 ≤ i + 80 → floats_from (flip_sign s p) j ≡ floats_from s j
  unfolding floats_from slot_from
  slots-other j a b =
      simp (
        at_slot 0 (omega arith),
        at_slot 4 (omega arith),
        at_slot 8 (omega arith),
        at_slot 12 (omega arith),
        at_slot 16 (omega arith),
        at_slot 20 (omega arith),
        at_slot 24 (omega arith),
        at_slot 28 (omega arith),
      )
    where
      at_slot : (k : ℕ) → k + 4 ≤ 32 → float_at (flip_sign s p) (j + k) ≡ float_at s (j + k)
      at_slot k l = float-other (j + k) (omega arith) (omega arith)

  tick-other : tick_from (flip_sign s p) i ≡ tick_from s i
  unfolding tick_from vec_from
  tick-other =
      simp (
        float-other i (omega arith) (omega arith),
        float-other (i + 4) (omega arith) (omega arith),
        float-other (i + 4 + 4) (omega arith) (omega arith),
        float-other (i + 4 + 8) (omega arith) (omega arith),
        slots-other (i + 16) (omega arith) (omega arith),
        slots-other (i + 48) (omega arith) (omega arith),
      )

-- ---- a trace

length_to : (s : List ℕ) (n : ℕ) → length (reflect_to s n) ≡ length s
unfolding reflect_to reflect_tick_bytes flip_sign
length_to s zero = refl
length_to s (suc n) = length-set (reflect_to s n) _ _ ∙ length_to s n

-- a byte stays a byte
set-byte : (s : List ℕ) (i v : ℕ) → v < 256 → Bytes s → Bytes (set s i v)
set-byte [] i v l h k = h k
set-byte (x ∷ s) zero v l h zero = l
set-byte (x ∷ s) zero v l h (suc k) = h (suc k)
set-byte (x ∷ s) (suc i) v l h zero = h zero
set-byte (x ∷ s) (suc i) v l h (suc k) = set-byte s i v l (λ j. h (suc j)) k

bytes-stay : (s : List ℕ) (n : ℕ) → Bytes s → Bytes (reflect_to s n)
unfolding reflect_to reflect_tick_bytes flip_sign
bytes-stay s zero h = h
bytes-stay s (suc n) h = set-byte (reflect_to s n) _ _ (small (byte_at (reflect_to s n) _)) (bytes-stay s n h)
  where
    small : (b : ℕ) → (b + 128) % 256 < 256
    small b = omega arith

-- tick j, before and after the loop has passed it
not_yet : (s : List ℕ) (n j : ℕ) → n ≤ j → tick_at (reflect_to s n) j ≡ tick_at s j
unfolding reflect_to reflect_tick_bytes
not_yet s zero j l = refl
not_yet s (suc n) j l =
    tick-other (reflect_to s n) (tick_bytes * n + wind_at + number_bytes) (tick_bytes * j) (inl (omega arith)) ∙ not_yet s n j (omega arith)

elsewhere : (s : List ℕ) (n j : ℕ) → j < n → tick_at (reflect_tick_bytes s (tick_bytes * n)) j ≡ tick_at s j
unfolding reflect_tick_bytes
elsewhere s n j l = tick-other s (tick_bytes * n + wind_at + number_bytes) (tick_bytes * j) (inr (omega arith))

passed : (s : List ℕ) (n j : ℕ) → Bytes s → j < n → n * tick_bytes ≤ length s → tick_at (reflect_to s n) j ≡ reflect_tick (tick_at s j)
unfolding reflect_to
passed s zero j h l m = absurd (none j l)
  where
    none : (j : ℕ) → j < 0 → ⊥
    none j l = omega arith
passed s (suc n) j h l m = go (λ g. passed s n j h g (omega arith)) (eq-or-lt_of_le (le_of_suc-le-suc l))
  where
    long : tick_bytes * n + tick_bytes ≤ length (reflect_to s n)
    long = omega (arith, length_to s n)

    go :
        (j < n → tick_at (reflect_to s n) j ≡ reflect_tick (tick_at s j)) → (j ≡ n) ⊎ (j < n)
        → tick_at (reflect_tick_bytes (reflect_to s n) (tick_bytes * n)) j ≡ reflect_tick (tick_at s j)
    go r (inl e) =
        rw e (reflect-tick-bytes (reflect_to s n) (tick_bytes * n) long (bytes-stay s n h) ∙ ap reflect_tick (not_yet s n n (le_refl n)))
    go r (inr g) = elsewhere (reflect_to s n) n j g ∙ r g

ticks-are :
    (s s' : List ℕ) (i m : ℕ) → ((j : ℕ) → j < i + m → tick_at s' j ≡ reflect_tick (tick_at s j))
    → ticks_from s' i m ≡ map reflect_tick (ticks_from s i m)
unfolding ticks_from
ticks-are s s' i zero h = refl
ticks-are s s' i (suc m) h =
    ap₂ (λ (t : Tick) (ts : List Tick). t ∷ ts) (h i (omega arith)) (ticks-are s s' (suc i) m (λ j l. h j (omega (arith, l))))

-- the reflected bytes are as many, and their ticks are the reflected ticks
pub reflected-length : (s : List ℕ) → length (reflect_trace s) ≡ length s
unfolding reflect_trace
reflected-length s = length_to s (tick_count s)

pub reflected-ticks : (s : List ℕ) → Bytes s → ticks_of (reflect_trace s) ≡ map reflect_tick (ticks_of s)
unfolding ticks_of reflect_trace
reflected-ticks s h =
    let n = tick_count s in
    ap (λ (m : ℕ). ticks_from (reflect_to s n) 0 (m / tick_bytes)) (length_to s n)
    ∙ ticks-are s (reflect_to s n) 0 n (λ j l. passed s n j h (omega (arith, l)) (div-mul-le_self (length s) tick_bytes))

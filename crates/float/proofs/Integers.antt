-- Floats below 2 ^ 24 in size as integers: the cut of such a float is below 2 ^ 24 too, so the machine and the format hold it. Assumes nothing.
use Rattle.std.proofs.Common.{◌≡◌, ℕ, zero, suc, ◌+◌, ◌-◌, ◌*◌, ◌/◌, ◌^◌, ◌<◌, min, Bool, true, false, ◌||◌, T, ltb, pos, neg_ℤ, subst, div-lt_iff_lt-mul, arith, le→leb, ltb→lt, lt→ltb, w32, SFits}
use lib.Ieee.{Float, binary32, down, fin, in_float, inf, le, lt, nan, to_signed, up}
use lib.Ieee.Fits.{down_pos}
use lib.Signed.{mag}

pub record Small (x : Float) : Type 0 where
  pub low : T (le (fin true 1 (pos 63)) x)
  pub high : T (lt x (fin false 1 (pos 63)))
  pub fits : SFits w32 (to_signed 63 x)
  pub whole : T (in_float binary32 (to_signed 63 x))

or_l : (a b : Bool) → T a → T (a || b)
or_l true b t = tt
or_l false b t = absurd t

quotient : (a d : ℕ) → 0 < d → a * 1 < 16777216 * d → a / d < 16777216
quotient a d p h = (div-lt_iff_lt-mul p).1 (omega arith)

neg_small : (n : ℕ) → n < 16777216 → mag (neg_ℤ (pos (min n (2 ^ 63)))) < 2 ^ 31
neg_small zero h = omega arith
neg_small (suc n) h = subst (λ (x : ℕ). mag (neg_ℤ (pos x)) < 2 ^ 31) (same (suc n) h) (omega arith)
  where
    same : (n : ℕ) → n < 16777216 → n ≡ min n (2 ^ 63)
    same n h = omega arith

neg-whole : (n : ℕ) → n < 16777216 → T (in_float binary32 (neg_ℤ (pos (min n (2 ^ 63)))))
unfolding in_float
neg-whole zero h = tt
neg-whole (suc n) h = subst (λ (x : ℕ). T (in_float binary32 (neg_ℤ (pos x)))) (same (suc n) h) (lt→ltb n 16777216 (omega arith))
  where
    same : (n : ℕ) → n < 16777216 → n ≡ min n (2 ^ 63)
    same n h = omega arith

pub small : (x : Float) → T (lt (fin true 1 (pos 24)) x) → T (lt x (fin false 1 (pos 24))) → Small x
unfolding lt le to_signed in_float
small nan h l = absurd l
small (inf true) h l = absurd h
small (inf false) h l = absurd l
small (fin true m e) h l =
    let d = down e in
    let a = m * up e in
    let D : 0 < d = down_pos e in
    let b : a * 1 < 16777216 * d = ltb→lt (a * 1) (16777216 * d) h in
    record {
      low = or_l (ltb (a * 1) (2 ^ 63 * d)) _ (lt→ltb (a * 1) (2 ^ 63 * d) (omega arith));
      high = lt→ltb 0 (a * 1 + 2 ^ 63 * d) (omega arith);
      fits = record { sfits = neg_small (a / d) (quotient a d D b) };
      whole = neg-whole (a / d) (quotient a d D b);
    }
small (fin false m e) h l =
    let d = down e in
    let a = m * up e in
    let D : 0 < d = down_pos e in
    let b : a * 1 < 16777216 * d = ltb→lt (a * 1) (16777216 * d) l in
    let q : a / d < 16777216 = quotient a d D b in
    record {
      low = or_l (ltb 0 (2 ^ 63 * d + a * 1)) _ (lt→ltb 0 (2 ^ 63 * d + a * 1) (omega arith));
      high = lt→ltb (a * 1) (2 ^ 63 * d) (omega arith);
      fits = record { sfits = omega arith };
      whole = le→leb (min (a / d) (2 ^ 63 - 1)) 16777216 (omega arith);
    }

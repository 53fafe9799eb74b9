-- The header's row count is small, so that the block's length is. Assumes nothing.
use Prim.Native.Nat.{◌≤◌, ℕ}
use borrow.Author.Tests.{ltb-false}
use lib.Dec.{eqb, ltb}
use mathlib.Core.Bool.{Bool, cond, false, not, true}
use mathlib.Core.Path.{◌≡◌, refl}
use native.Mathlib.Omega.{arith}
use Rattle.answers.specs.declared.Refusal.{Refusal}
use Rattle.answers.specs.declared.Refusal.TheVariants.{ReservedBit, TooManyRows, WrongFalloff, WrongVersion}
use Rattle.mixers.specs.Rows.{most_rows}
use Rattle.airframe_block.proofs.Segments.{bytes-within}
use Rattle.airframe_block.specs.Block.{Announced, announced_by, announced_of, bytes_of, header_bytes, header_of, most_bytes}
use Rattle.std.specs.Prelude.{Ok, Err}
use Rattle.airframe_block.specs.declared.Header.{Header}

pub small-header : (h : Header) (a b : ℕ) → h ≡ header_of a b → h.rows ≤ 31
unfolding header_of
small-header h a b e = rw e (omega arith)

not-refused : (x : Refusal) (n : ℕ) → Err x ≡ Ok n → ⊥
not-refused x n e = let z : ◌≡◌ {A = ℕ} 0 1 = cc in omega arith

-- a header that announces a length has no more rows than a block may, and the length is its own
pub announced-bytes : (h : Header) (n : ℕ) → announced_by h ≡ Ok n → (n ≡ bytes_of h) × (h.rows ≤ most_rows)
unfolding announced_by
announced-bytes h n e = go (not (eqb h.version 1)) (ltb 1 h.kind) (not (eqb h.reserved 0)) (ltb most_rows h.rows) refl e
  where
    said : Bool → Bool → Bool → Bool → Announced
    said p q r t =
        cond p (Err WrongVersion) (cond q (Err WrongFalloff)
        (cond r (Err ReservedBit) (cond t (Err TooManyRows) (Ok (bytes_of h)))))

    go : (p q r t : Bool) → ltb most_rows h.rows ≡ t → said p q r t ≡ Ok n → (n ≡ bytes_of h) × (h.rows ≤ most_rows)
    go true q r t l e = absurd (not-refused WrongVersion n e)
    go false true r t l e = absurd (not-refused WrongFalloff n e)
    go false false true t l e = absurd (not-refused ReservedBit n e)
    go false false false true l e = absurd (not-refused TooManyRows n e)
    go false false false false l e = (cc, omega (arith, ltb-false most_rows h.rows l))

-- a length that is announced: no shorter than the header, no longer than the longest block
pub announced-within : (a b n : ℕ) → announced_of a b ≡ Ok n → (header_bytes ≤ n) × (n ≤ most_bytes)
announced-within a b n e =
    let h : Header = header_of a b in
    let w : (header_bytes ≤ bytes_of h) × (bytes_of h ≤ most_bytes) = bytes-within h (small-header h a b refl) in
    let m : n ≡ bytes_of h = (announced-bytes h n e).0 in
    (omega (arith, m, w.0), omega (arith, m, w.1))

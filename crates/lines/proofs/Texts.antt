-- Digits may be written from the last to the first, what is set behind a text, and the two cases of what follows the last lines. Assumes
-- nothing.
use Rattle.std.proofs.Common.{◌≡◌, ℕ, zero, suc, ◌+◌, ◌/◌, ◌%◌, ◌<◌, Bool, true, false, cond, ltb, List, [], ◌∷◌, ◌++◌, length, sym, refl, ap, ◌∙◌, set, drop, add-one}
use Rattle.std.proofs.Common.{append_assoc, length-append, eq-eqb, ne_eqb, Err, ◌≤◌, arith}
use lib.Seq.{set_comm, sets}
use Rattle.std.proofs.lemmas.List.{drop-set}
use Rattle.answers.specs.declared.Refusal.TheVariants.{WrongLength}
use Rattle.lines.specs.Glyph.{glyph_of}
use Rattle.lines.specs.Text.{byte_text, digit_count, digits_of, end_text, refusal_text}
use Rattle.trace.specs.Tick.{tick_bytes}

pub length_digits : (b k n : ℕ) → length (digits_of b k n) ≡ k
unfolding digits_of
length_digits b zero n = refl
length_digits b (suc k) n =
    length-append (digits_of b k (n / b)) (byte_text (glyph_of (n % b))) ∙ ap (λ (m : ℕ). m + 1) (length_digits b k (n / b)) ∙ add-one k

-- a number below 10 has one digit, whatever the bound
pub digit-count-last : (more n : ℕ) → ltb n 10 ≡ true → digit_count more n ≡ 1
unfolding digit_count
digit-count-last zero n h = refl
digit-count-last (suc more) n h = ap (λ (b : Bool). cond b 1 (suc (digit_count more (n / 10)))) h

-- any other has one more than its tenth
pub digit-count-more : (more less n : ℕ) → more ≡ suc less → ltb n 10 ≡ false → digit_count more n ≡ suc (digit_count less (n / 10))
unfolding digit_count
digit-count-more more less n e h =
    ap (λ (m : ℕ). digit_count m n) e ∙ ap (λ (b : Bool). cond b 1 (suc (digit_count less (n / 10)))) h

-- one digit more is written, before the others
pub digit-written :
    (b j n : ℕ) (room : List ℕ)
    → j < length room → digits_of b (suc j) n ++ drop (suc j) room ≡ digits_of b j (n / b) ++ drop j (set room j (glyph_of (n % b)))
unfolding digits_of
digit-written b j n room h =
    let g : ℕ = glyph_of (n % b) in
    let left : List ℕ = digits_of b j (n / b) in
    append_assoc left (g ∷ []) (drop (suc j) room)
    ∙ sym (ap (λ (x : List ℕ). left ++ x) (drop-set room j g h ∙ ap (λ (k : ℕ). g ∷ drop k room) (add-one j)))

-- what is set behind a text may be set before it is written
pub set-behind : (vs l : List ℕ) (i j a : ℕ) → i + length vs ≤ j → sets (set l j a) i vs ≡ set (sets l i vs) j a
set-behind [] l i j a h = refl
set-behind (v ∷ vs) l i j a h =
    ap (λ (m : List ℕ). sets m (suc i) vs) (set_comm l j i a v (λ e. omega arith))
    ∙ set-behind vs (set l i v) (suc i) j a (omega arith)

-- behind whole ticks nothing follows, and behind bytes that make no whole tick their refusal
pub end_whole : (n : ℕ) → n % tick_bytes ≡ 0 → [] ≡ end_text n
unfolding end_text
end_whole n h = sym (ap (λ (b : Bool). cond b [] (refusal_text (Err WrongLength))) (eq-eqb _ _ h))

pub end-cut : (n : ℕ) → (n % tick_bytes ≡ 0 → ⊥) → refusal_text (Err WrongLength) ≡ end_text n
unfolding end_text
end-cut n h = sym (ap (λ (b : Bool). cond b [] (refusal_text (Err WrongLength))) (ne_eqb _ _ h))

-- `lines::digits::write_digits` meets its contract. Assumes nothing.
use Rattle.std.proofs.Common.{◌≡◌, ℕ, ◌+◌, ◌-◌, ◌/◌, ◌++◌, suc, length, drop, set, sym, ap, ◌∙◌, arith, rules}
use Rattle.lines.specs.Text.{digits_of}
use Rattle.lines.proofs.Texts.{digit-written}
use Rattle.lines.proofs.digits.write_digits.Goals as goal

pub loop-i-preserved : goal.loop-i-preserved
loop-i-preserved c =
    let l = c.loop-i in
    let a = c.args in
    let k : ℕ = length a.room.now in
    let j : ℕ = k - 1 - l.i in
    let left : k - l.i ≡ suc j = omega arith in
    let next : k - (l.i + 1) ≡ j = omega arith in (
      search rules,
      ap (λ (m : ℕ). digits_of a.base m (l.rest / a.base) ++ drop m (set l.room j c.glyph.result)) next
          ∙ ap (λ (g : ℕ). digits_of a.base j (l.rest / a.base) ++ drop j (set l.room j g)) c.glyph.ensures
          ∙ sym (digit-written a.base j l.rest l.room (omega (arith, l.invariant.0)))
          ∙ sym (ap (λ (m : ℕ). digits_of a.base m l.rest ++ drop m l.room) left)
          ∙ l.invariant.1,
    )

pub returns : goal.returns
unfolding digits_of
returns c =
    let l = c.loop-i in
    let a = c.args in
    let none : length a.room.now - l.i ≡ 0 = omega arith in
    sym (ap (λ (m : ℕ). digits_of a.base m l.rest ++ drop m l.room) none) ∙ l.invariant.1

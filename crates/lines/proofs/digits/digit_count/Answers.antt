-- `lines::digits::digit_count` meets its contract. Assumes nothing.
use Rattle.std.proofs.Common.{◌≡◌, ℕ, suc, ◌+◌, ◌-◌, ◌/◌, ap, arith, le-ltb, lt-ltb}
use Rattle.lines.specs.Text.{digit_count}
use Rattle.lines.proofs.Texts.{digit-count-last, digit-count-more}
use Rattle.lines.proofs.digits.digit_count.Goals as goal

pub returns-then-rest-lt10-clause-count : goal.returns-then-rest-lt10-clause-count
returns-then-rest-lt10-clause-count c =
    let l = c.loop-k in
    let last : digit_count (20 - l.k) l.rest ≡ 1 = digit-count-last (20 - l.k) l.rest (lt-ltb _ _ c.if-rest-lt10.true) in
    omega (arith, last, l.invariant)

pub loop-k-preserved : goal.loop-k-preserved
loop-k-preserved c =
    let l = c.loop-k in
    let more : digit_count (20 - l.k) l.rest ≡ suc (digit_count (20 - (l.k + 1)) (l.rest / 10)) =
    digit-count-more (20 - l.k) (20 - (l.k + 1)) l.rest (omega arith) (le-ltb _ _ c.if-rest-lt10.false) in
    omega (arith, more, l.invariant)

pub returns-clause-count : goal.returns-clause-count
unfolding digit_count
returns-clause-count c =
    let l = c.loop-k in
    let none : 20 - l.k ≡ 0 = omega arith in
    let last : digit_count (20 - l.k) l.rest ≡ 1 = ap (λ (m : ℕ). digit_count m l.rest) none in
    omega (arith, last, l.invariant)

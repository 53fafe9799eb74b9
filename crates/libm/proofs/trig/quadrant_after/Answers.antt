-- `libm::trig::quadrant_after` meets its contract: it goes through the definition's tests in their order. Assumes nothing.
use lib.Ieee.{eq, neg, of_bits, round}
use mathlib.Core.Bool.{◌||◌}
use mathlib.Core.Path.{◌∙◌, ◌≡◌, sym}
use Rattle.float.specs.Notation.{one, rounded, two}
use Rattle.libm.specs.Promises.{quadrant_after}
use Rattle.libm.proofs.trig.quadrant_after.Goals as goal
use Rattle.libm.proofs.trig.quadrant_after.Goals.{else-q-2, else-q-4, then-q-2, then-q-4}

pub returns-then-q : goal.returns-then-q
unfolding quadrant_after of_bits
returns-then-q c = simp c.if-q.true

pub returns-then-q-3 : goal.returns-then-q-3
unfolding quadrant_after neg of_bits round
returns-then-q-3 c =
    let b : c.if-q-2.value ≡ (eq c.args.q one || eq c.args.q (neg (rounded 3 1))) =
    elim c.if-q-2.branch [
      | then-q-2 w ↦ w.value-is ∙ sym (simp w.if-q-2.true)
      | else-q-2 w ↦ w.value-is ∙ sym (simp w.if-q-2.false)
    ] in
    simp (c.if-q.false, sym b ∙ c.if-q-3.true)

pub returns-then-q-5 : goal.returns-then-q-5
unfolding quadrant_after neg of_bits round
returns-then-q-5 c =
    let b : c.if-q-2.value ≡ (eq c.args.q one || eq c.args.q (neg (rounded 3 1))) =
    elim c.if-q-2.branch [
      | then-q-2 w ↦ w.value-is ∙ sym (simp w.if-q-2.true)
      | else-q-2 w ↦ w.value-is ∙ sym (simp w.if-q-2.false)
    ] in
    let d : c.if-q-4.value ≡ (eq c.args.q two || eq c.args.q (neg two)) =
    elim c.if-q-4.branch [
      | then-q-4 w ↦ w.value-is ∙ sym (simp w.if-q-4.true)
      | else-q-4 w ↦ w.value-is ∙ sym (simp w.if-q-4.false)
    ] in
    simp (c.if-q.false, sym b ∙ c.if-q-3.false, sym d ∙ c.if-q-5.true)

pub returns-else-q-5 : goal.returns-else-q-5
unfolding quadrant_after neg of_bits round
returns-else-q-5 c =
    let b : c.if-q-2.value ≡ (eq c.args.q one || eq c.args.q (neg (rounded 3 1))) =
    elim c.if-q-2.branch [
      | then-q-2 w ↦ w.value-is ∙ sym (simp w.if-q-2.true)
      | else-q-2 w ↦ w.value-is ∙ sym (simp w.if-q-2.false)
    ] in
    let d : c.if-q-4.value ≡ (eq c.args.q two || eq c.args.q (neg two)) =
    elim c.if-q-4.branch [
      | then-q-4 w ↦ w.value-is ∙ sym (simp w.if-q-4.true)
      | else-q-4 w ↦ w.value-is ∙ sym (simp w.if-q-4.false)
    ] in
    simp (c.if-q.false, sym b ∙ c.if-q-3.false, sym d ∙ c.if-q-5.false)

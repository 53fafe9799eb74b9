-- `lines::compare::same_slots` meets its contract. Assumes nothing.
use Rattle.std.proofs.Common.{◌≡◌, Bool, true, false, cond, sym, refl, ap, ◌∙◌}
use Rattle.lines.specs.Compare.{same_slot}
use Rattle.ordered.specs.Ordered.{all_pass}
use Rattle.ordered.proofs.Ordered.{pass-more}
use Rattle.lines.proofs.compare.same_slots.Goals as goal
use Rattle.lines.proofs.compare.same_slots.Goals.{then-ok, else-ok}

pub loop-i-init : goal.loop-i-init
unfolding all_pass
loop-i-init c = refl

-- one test more, where all so far hold, and where one does not
one-more : (t : Bool) → t ≡ cond t true false
one-more true = refl
one-more false = refl

none-more : (t : Bool) → false ≡ cond t false false
none-more true = refl
none-more false = refl

pub loop-i-preserved : goal.loop-i-preserved
unfolding same_slot
loop-i-preserved c =
    let l = c.loop-i in
    let test : Bool = same_slot c.args.xs c.args.ys l.i in
    pass-more _ l.i l.ok _ l.invariant (elim c.if-ok.branch [
      | then-ok w ↦ w.ok-is ∙ w.same-ok.ensures ∙ one-more test ∙ ap (λ (b : Bool). cond test b false) (sym w.if-ok.true)
      | else-ok w ↦ w.ok-is ∙ w.if-ok.false ∙ none-more test ∙ ap (λ (b : Bool). cond test b false) (sym w.if-ok.false)
    ])

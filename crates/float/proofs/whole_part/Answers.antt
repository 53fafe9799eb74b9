-- `float::whole_part` meets its contract: its two tests are the definition's, and what is cut between them comes back as a float. Assumes nothing.
use Rattle.std.proofs.Common.{◌≡◌, Bool, true, false, cond, ◌&&◌, T, ℤ, pos, sym, refl, ap, ◌∙◌, subst, w64, to_z, of_z}
use lib.Ieee.{Float, fin, binary32, of_bits, neg, lt, of_int, to_signed, in_float}
use mir.ValLaws.{to_z-of_z}
use Rattle.float.specs.Promises.{whole_part}
use Rattle.float.proofs.whole_part.Goals as goal
use Rattle.float.proofs.whole_part.Goals.{else-x-via-then-x+else-x-2, else-x-via-else-x}

-- `whole_part` by the answers of its two tests
part : (x : Float) (a b : Bool) → lt (fin true 1 (pos 24)) x ≡ a → lt x (fin false 1 (pos 24)) ≡ b
    → whole_part x ≡ cond (a && b) (of_int binary32 (to_signed 63 x)) (fin false 0 (pos 0))
unfolding whole_part
part x a b p q = cc

-- what the machine reads back of the integer
read : (c : goal.After-row_known-1) → to_z w64 (of_z w64 c.truncated.result) ≡ c.truncated.result
read c = to_z-of_z w64 c.truncated.result (record { sfits = c.truncated.type_inv })

pub truncated-requires-clause-lower_bound : goal.truncated-requires-clause-lower_bound
unfolding of_bits neg
truncated-requires-clause-lower_bound c = subst T (sym c.if-x.true) tt

pub truncated-requires-clause-upper_bound : goal.truncated-requires-clause-upper_bound
unfolding of_bits neg
truncated-requires-clause-upper_bound c = subst T (sym c.if-x-2.true) tt

pub int_to_float-result : goal.int_to_float-result
int_to_float-result c = subst (λ (z : ℤ). T (in_float binary32 z)) (sym (read c)) c.truncated.ensures.exact

pub returns-then-x-2 : goal.returns-then-x-2
unfolding of_bits neg
returns-then-x-2 c =
    ap (of_int binary32) (read c ∙ c.truncated.ensures.value)
    ∙ sym (part c.args.x true true c.if-x.true c.if-x-2.true)

pub returns-else-x : goal.returns-else-x
unfolding of_bits neg
returns-else-x c =
    elim c.else-x.branch [
      | else-x-via-then-x+else-x-2 w ↦ sym (part c.args.x true false w.if-x.true w.if-x-2.false)
      | else-x-via-else-x w ↦ sym (part c.args.x false (lt c.args.x (fin false 1 (pos 24))) w.if-x.false refl)
    ]

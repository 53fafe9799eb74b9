-- `airframe::vectors_outside` meets its contract. Assumes nothing.
use Rattle.airframe.specs.Acceptance.{vectors_outside}
use Prim.Native.Nat.{◌<◌, ℕ}
use native.Mathlib.Omega.{arith}
use Rattle.ordered.specs.Ordered.{unless_zero}
use Rattle.ordered.proofs.Ordered.{pass-none, pass-some, some-eqb, some-is}
use mathlib.Core.Path.{◌∙◌, ◌≡◌, sym}
use Rattle.airframe.proofs.vectors_outside.Goals as goal

above : (n : ℕ) → 0 < n → n ≡ 0 → ⊥
above n l e = omega (arith, l, e)

pub returns-then-vectors_inside : goal.returns-then-vectors_inside
unfolding vectors_outside unless_zero
returns-then-vectors_inside c = rw (pass-none _ 8 (sym c.vectors_inside.ensures ∙ c.if-vectors_inside.true))

pub returns : goal.returns
unfolding vectors_outside
returns c = rw (some-eqb _ (pass-some _ 8 (sym c.vectors_inside.ensures ∙ c.if-vectors_inside.false))) (sym (some-is _ (above c.args.place c.requires)))

-- The wash in a reflected flight: the same, as data, for the same thrust. Assumes nothing.
use lib.Dec.{T}
use lib.Ieee.{Float, binary32, lt, neg}
use mathlib.Core.Bool.{Bool, cond, false, true}
use mathlib.Core.Path.{◌≡◌, ap, refl}
use Rattle.float.proofs.Mirror.{exact, r-lt, r-same}
use Rattle.float.proofs.Zeros.{nonzero-below}
use Rattle.float.specs.Notation.{◌⊖◌, ◌⊗◌, ◌⊘◌, zero, two}
use Rattle.float.specs.Same.{Rel}
use Rattle.libm.specs.Sqrt.{sqrt_of}
use Rattle.tailsitter_model.specs.Slipstream.{added_pa, disc_pa, wash_by_pressure, wash_of}
use Rattle.tailsitter_model.specs.declared.PropWash.{PropWash}

sink-is : {a a' : Float} (c : Float) → Rel false a a' → T (lt a zero) → c ⊗ neg a' ≡ c ⊗ neg a
sink-is {a} {a'} c h t = ap (λ (z : Float). c ⊗ neg z) (exact h (nonzero-below a t))

pub added_is : {a a' : Float} (w : PropWash) (thrust density : Float) → Rel false a a' → added_pa w thrust a' density ≡ added_pa w thrust a density
unfolding added_pa
added_is {a} {a'} w thrust density h =
    rw (r-lt h (r-same zero)) (go (lt a zero) (λ t. sink-is (w.sink_loss ⊗ density ⊗ sqrt_of binary32 (two ⊗ disc_pa w thrust ⊘ density)) h t))
  where
    k : Float
    k = w.sink_loss ⊗ density ⊗ sqrt_of binary32 (two ⊗ disc_pa w thrust ⊘ density)

    go : (b : Bool) → (T b → k ⊗ neg a' ≡ k ⊗ neg a) → cond b (disc_pa w thrust ⊖ k ⊗ neg a') (disc_pa w thrust) ≡ cond b (disc_pa w thrust ⊖ k ⊗ neg a)
        (disc_pa w thrust)
    go true e = rw (e tt)
    go false e = refl

pub wash-is : {a a' : Float} (w : PropWash) (thrust density : Float) → Rel false a a' → wash_of w thrust a' density ≡ wash_of w thrust a density
unfolding wash_of
wash-is w thrust density h = ap (λ (z : Float). wash_by_pressure w z density) (added_is w thrust density h)

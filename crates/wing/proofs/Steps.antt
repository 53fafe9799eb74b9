-- The lag factors of a step are those of any step with the same bits. Rests on the bits of a 32-bit float giving it back. Assumes nothing.
use lib.Dec.{T}
use lib.Ieee.{Float, binary32, fits, of_bits, to_bits}
use lib.Ieee.Bits.{of_bits-to_bits}
use mathlib.Core.Path.{◌∙◌, ◌≡◌, ap, sym}
use Rattle.airframe.specs.declared.Airframe.{Airframe}
use Rattle.wing.specs.Promises.{FactorsMatchStep, lag_factors_from, begin_of}
use Rattle.wing.specs.declared.LagFactors.{LagFactors}

module _ (a : Airframe) where
  abbrev motor : Float → Float
  motor x = (begin_of a x).motor

  abbrev servo : Float → Float
  servo x = (begin_of a x).servo

  abbrev lift : Float → Float
  lift x = (begin_of a x).lift

  pub begin-held : (held : LagFactors) (h : Float) → T (fits binary32 h) → to_bits binary32 h ≡ held.step_bits → FactorsMatchStep a held → held ≡ begin_of a h
  unfolding lag_factors_from
  begin-held held h f p k = λ i. record {
    step_bits = sym p i;
    motor = (k.motor ∙ ap motor e) i;
    servo = (k.servo ∙ ap servo e) i;
    lift = (k.lift ∙ ap lift e) i;
  }
    where
      e : of_bits binary32 held.step_bits ≡ h
      e = ap (of_bits binary32) (sym p) ∙ of_bits-to_bits binary32 h f

  pub begin-of-its-step : (h : Float) → T (fits binary32 h) → FactorsMatchStep a (begin_of a h)
  unfolding lag_factors_from
  begin-of-its-step h f = record { motor = ap motor e; servo = ap servo e; lift = ap lift e }
    where
      e : h ≡ of_bits binary32 (to_bits binary32 h)
      e = sym (of_bits-to_bits binary32 h f)

-- The number of a reply says which it is where it is 0, a refusal's is never 0, and all are below 16. Assumes nothing.
use lib.Dec.{T, ltb}
use mathlib.Core.Bool.{false}
use mathlib.Core.Path.{◌≡◌, refl}
use native.Mathlib.Nat.{suc-ne-zero}
use Rattle.std.specs.Prelude.{Ok, Err, is_ok}
use Rattle.answers.specs.Answers.{Answer, done, is_done, number_of, refusal_number}
use Rattle.answers.specs.declared.Refusal.{Refusal}
use Rattle.answers.specs.declared.Refusal.TheVariants.{Departure, NumberOutOfRange, ReservedBit, StateOutside, StepOutside}
use Rattle.answers.specs.declared.Refusal.TheVariants.{TooManyRows, WindUnusable, WrongFalloff, WrongLength, WrongVersion}

pub refusal-not-0 : (x : Refusal) → refusal_number x ≡ 0 → ⊥
refusal-not-0 WrongLength e = suc-ne-zero 0 e
refusal-not-0 WrongVersion e = suc-ne-zero 1 e
refusal-not-0 WrongFalloff e = suc-ne-zero 2 e
refusal-not-0 ReservedBit e = suc-ne-zero 3 e
refusal-not-0 TooManyRows e = suc-ne-zero 4 e
refusal-not-0 (NumberOutOfRange p) e = suc-ne-zero 5 e
refusal-not-0 StateOutside e = suc-ne-zero 6 e
refusal-not-0 StepOutside e = suc-ne-zero 7 e
refusal-not-0 Departure e = suc-ne-zero 8 e
refusal-not-0 WindUnusable e = suc-ne-zero 9 e

pub refused-not-done : (x : Refusal) → is_done (Err x) ≡ false
refused-not-done WrongLength = refl
refused-not-done WrongVersion = refl
refused-not-done WrongFalloff = refl
refused-not-done ReservedBit = refl
refused-not-done TooManyRows = refl
refused-not-done (NumberOutOfRange p) = refl
refused-not-done StateOutside = refl
refused-not-done StepOutside = refl
refused-not-done Departure = refl
refused-not-done WindUnusable = refl

pub done-is-ok : (x : Answer) → is_done x ≡ is_ok x
done-is-ok (Ok u) = refl
done-is-ok (Err x) = refused-not-done x

pub number-done : (x : Answer) → number_of x ≡ 0 → x ≡ done
number-done (Ok u) e = refl
number-done (Err x) e = absurd (refusal-not-0 x e)

refusal_small : (x : Refusal) → T (ltb (refusal_number x) 16)
refusal_small WrongLength = tt
refusal_small WrongVersion = tt
refusal_small WrongFalloff = tt
refusal_small ReservedBit = tt
refusal_small TooManyRows = tt
refusal_small (NumberOutOfRange p) = tt
refusal_small StateOutside = tt
refusal_small StepOutside = tt
refusal_small Departure = tt
refusal_small WindUnusable = tt

pub number_small : (x : Answer) → T (ltb (number_of x) 16)
number_small (Ok u) = tt
number_small (Err x) = refusal_small x

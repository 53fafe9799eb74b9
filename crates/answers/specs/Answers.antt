-- What the bench replies: the number and the place of each answer (01's table, and 10 of 02, 1). Definitions only.
use Rattle.std.specs.Prelude.{ℕ, eqb, Bool, Result, Ok, Err, ⊤}
use Rattle.answers.specs.declared.Refusal.{Refusal}
use Rattle.answers.specs.declared.Refusal.TheVariants.{Departure, NumberOutOfRange, ReservedBit, StateOutside, StepOutside}
use Rattle.answers.specs.declared.Refusal.TheVariants.{TooManyRows, WindUnusable, WrongFalloff, WrongLength, WrongVersion}

-- done, or refused
abbrev pub Answer : Type 0
Answer = Result ⊤ Refusal

abbrev pub done : Answer
done = Ok tt

abbrev pub refusal_number : Refusal → ℕ
refusal_number WrongLength = 1
refusal_number WrongVersion = 2
refusal_number WrongFalloff = 3
refusal_number ReservedBit = 4
refusal_number TooManyRows = 5
refusal_number (NumberOutOfRange p) = 6
refusal_number StateOutside = 7
refusal_number StepOutside = 8
refusal_number Departure = 9
refusal_number WindUnusable = 10

abbrev pub number_of : Answer → ℕ
number_of (Ok u) = 0
number_of (Err x) = refusal_number x

-- accepted, read or written: nothing was refused
abbrev pub is_done : Answer → Bool
is_done x = eqb (number_of x) 0

-- the place is that of answer 6, and 0 of every other
abbrev pub refusal_place : Refusal → ℕ
refusal_place (NumberOutOfRange p) = p
refusal_place WrongLength = 0
refusal_place WrongVersion = 0
refusal_place WrongFalloff = 0
refusal_place ReservedBit = 0
refusal_place TooManyRows = 0
refusal_place StateOutside = 0
refusal_place StepOutside = 0
refusal_place Departure = 0
refusal_place WindUnusable = 0

abbrev pub place_of : Answer → ℕ
place_of (Ok u) = 0
place_of (Err x) = refusal_place x

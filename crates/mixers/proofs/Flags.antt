-- `&` of two flags, by cases. Assumes nothing.
use mathlib.Core.Bool.{Bool, ◌&&◌, cond, false, true}
use mathlib.Core.Path.{◌≡◌, refl}

pub and-cond : (a b : Bool) → (a && b) ≡ cond b a false
and-cond true true = refl
and-cond true false = refl
and-cond false true = refl
and-cond false false = refl

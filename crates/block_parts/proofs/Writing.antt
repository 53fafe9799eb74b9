-- Writing keeps the length. Assumes nothing.
use Prim.Native.Nat.{◌*◌, ◌+◌, suc, zero, ℕ}
use lib.Ieee.{Float}
use lib.ListN.{length, length-set}
use mathlib.Core.List.{List}
use mathlib.Core.Path.{◌∙◌, ◌≡◌, refl}
use Rattle.mixers.specs.Slots.{at}
use Rattle.vector.specs.declared.Vec3.{Vec3}
use Rattle.block_parts.specs.Parts.{put_float, put_floats, put_vec}

pub length-put_float : (s : List ℕ) (i : ℕ) (x : Float) → length (put_float s i x) ≡ length s
unfolding put_float
length-put_float s i x = simp length-set

pub length-put_floats : (s : List ℕ) (i : ℕ) (xs : List Float) (n : ℕ) → length (put_floats s i xs n) ≡ length s
unfolding put_floats
length-put_floats s i xs zero = refl
length-put_floats s i xs (suc n) = length-put_float (put_floats s i xs n) (i + 4 * n) (at xs n) ∙ length-put_floats s i xs n

pub length-put_vec : (s : List ℕ) (i : ℕ) (v : Vec3) → length (put_vec s i v) ≡ length s
unfolding put_vec
length-put_vec s i v = simp length-put_float

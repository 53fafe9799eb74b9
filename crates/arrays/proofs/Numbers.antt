-- Where the numbers by place stand in an airframe's array, and that they are those of the array's airframe. Assumes nothing.
use Prim.Native.Nat.{◌+◌, ◌-◌, ◌<◌, ◌≤◌, ℕ}
use borrow.Author.Tests.{le-ltb, lt-ltb, ltb-false, ltb-true}
use borrow.Rule.Slice.PartMut.{put_mid}
use lib.Dec.{ltb}
use lib.Ieee.{Float, nan}
use lib.ListN.{drop, drop_of_length-le, length, take}
use lib.Seq.{ext_get_or}
use mathlib.Core.Bool.{Bool, false, true}
use mathlib.Core.List.{List, [], ◌++◌}
use mathlib.Core.Path.{◌∙◌, ◌≡◌, ap, ap₂, refl, sym}
use native.Mathlib.Omega.{arith}
use Rattle.std.proofs.lemmas.List.{append-nil, drop_at, get_or-append_right, get_or-drop, get_or-take, get_or_append_left, length-append, length-drop}
use Rattle.std.proofs.lemmas.List.{length-take-le, take_at}
use Rattle.airframe.proofs.RoundTrip.{numbers-again}
use Rattle.airframe.specs.Acceptance.{first_refused, lift_torques_outside, lowest_place, refused_place}
use Rattle.airframe.specs.FromNumbers.{airframe_of, falloff_of, model_of, place}
use Rattle.airframe.specs.Numbers.{lift_count, lift_first, numbers_count, numbers_of}
use Rattle.float.proofs.Lists.{length-list_of, list_of-at}
use Rattle.mixers.specs.Slots.{at}
use Rattle.arrays.specs.Airframe.{airframe_numbers_count}
use Rattle.arrays.specs.Airframe.{airframe_in, airframe_with, group_in, is_set, kind_at, kind_of, lift_numbers_at, lift_present_at}
use Rattle.arrays.specs.Airframe.{lift_torques_at, number_at, numbers_in, torques_at, vecs_in, wash_at, weights_at}

-- the lift rotors' stand behind all that an older array has
pub place-before : (k : ℕ) → k < lift_first → number_at k ≡ k
unfolding number_at
place-before k l = rw (lt-ltb k lift_first l)

pub place-behind : (k : ℕ) → lift_first ≤ k → number_at k ≡ lift_numbers_at + (k - lift_first)
unfolding number_at
place-behind k l = rw (le-ltb k lift_first l)

-- an older array's numbers by place and the lift rotors' behind them
places : List Float → List Float
places xs = take lift_first xs ++ take lift_count (drop lift_numbers_at xs)

length-places : (xs : List Float) → airframe_numbers_count ≤ length xs → length (places xs) ≡ numbers_count
unfolding places
length-places xs l =
    length-append (take lift_first xs) _
    ∙ ap₂ (λ (m n : ℕ). m + n) (length-take-le lift_first xs (omega arith))
    (length-take-le lift_count (drop lift_numbers_at xs) (omega (arith, length-drop lift_numbers_at xs)))

place_at : (xs : List Float) (k : ℕ) → airframe_numbers_count ≤ length xs → k < numbers_count → at (places xs) k ≡ at xs (number_at k)
unfolding places
place_at xs k l m = go (ltb k lift_first) refl
  where
    base : length (take lift_first xs) ≡ lift_first
    base = length-take-le lift_first xs (omega arith)

    go : (t : Bool) → ltb k lift_first ≡ t → at (take lift_first xs ++ take lift_count (drop lift_numbers_at xs)) k ≡ at xs (number_at k)
    go true e =
        let before = ltb-true k lift_first e in
        get_or_append_left (take lift_first xs) _ nan k (omega (arith, base, before))
        ∙ get_or-take lift_first xs k nan before
        ∙ ap (at xs) (sym (place-before k before))
    go false e =
        let behind = ltb-false k lift_first e in
        get_or-append_right (take lift_first xs) _ lift_first k nan base behind
        ∙ get_or-take lift_count (drop lift_numbers_at xs) (k - lift_first) nan (omega (arith, behind))
        ∙ get_or-drop lift_numbers_at xs (k - lift_first) nan
        ∙ ap (at xs) (sym (place-behind k behind))

places-are : (xs : List Float) → airframe_numbers_count ≤ length xs → places xs ≡ numbers_in xs
unfolding numbers_in
places-are xs l =
    ext_get_or nan (places xs) (numbers_in xs) (length-places xs l ∙ sym (length-list_of (λ k. at xs (number_at k)) numbers_count))
    (λ k b.
    let m : k < numbers_count = omega (arith, b, length-places xs l) in
    place_at xs k l m ∙ sym (list_of-at nan (λ k. at xs (number_at k)) numbers_count k m))

-- the copies of both, one after the other into an array of as many
pub places-copied : (xs none : List Float) → airframe_numbers_count ≤ length xs → length none ≡ lift_count
    → put_mid lift_first lift_count (take lift_first xs ++ none) (take lift_count (drop lift_numbers_at xs)) ≡ numbers_in xs
unfolding places
places-copied xs none l e =
    let base = length-take-le lift_first xs (omega arith) in
    let more = take lift_count (drop lift_numbers_at xs) in
    let rest : drop lift_count (drop lift_first (take lift_first xs ++ none)) ≡ [] =
    ap (drop lift_count) (drop_at (take lift_first xs) none lift_first base) ∙ drop_of_length-le none {i = lift_count} (omega (arith, e)) in
    ap₂ (λ (start end : List Float). start ++ (more ++ end)) (take_at (take lift_first xs) none lift_first base) rest
    ∙ ap (λ (end : List Float). take lift_first xs ++ end) (append-nil more)
    ∙ places-are xs l

pub array-numbers : (xs : List Float) → numbers_of (airframe_in xs) ≡ numbers_in xs
unfolding airframe_in airframe_with group_in numbers_in
array-numbers xs =
    numbers-again (numbers_in xs) _ _ _ _ _ _
    (length-list_of _ numbers_count)
    (record { layout = refl; constant = refl; lift-layout = refl; lift-constant = refl })

-- test 6 by the array's numbers, ns being those by place
abbrev pub tests : List Float → List Float → ℕ
tests xs ns =
    first_refused ns (falloff_of (kind_of (at xs kind_at)) (place (numbers_in xs) 37)) (is_set (at xs wash_at)) true (vecs_in xs torques_at)
    (vecs_in xs weights_at)
    (is_set (at xs lift_present_at))
    (lift_torques_outside (is_set (at xs lift_present_at)) (vecs_in xs lift_torques_at))

tested : (xs : List Float) → refused_place (airframe_in xs) ≡ tests xs (numbers_of (airframe_in xs))
unfolding refused_place lowest_place airframe_in airframe_with airframe_of group_in model_of
tested xs = refl

pub array-refused : (xs : List Float) → refused_place (airframe_in xs) ≡ tests xs (numbers_in xs)
array-refused xs = tested xs ∙ ap (λ (ns : List Float). tests xs ns) (array-numbers xs)

-- `surfaces::weighed` meets its contract. Assumes nothing.
use borrow.Author.Rules.{rules}
use lib.Ieee.{nan}
use mathlib.Core.Path.{◌∙◌, ◌≡◌, ap, sym}
use Rattle.mixers.proofs.Made.{map_same}
use Rattle.mixers.proofs.Slots.{map-slots}
use Rattle.mixers.specs.Slots.{slots, vec_at}
use Rattle.vector.specs.Vector.{component_mul, vec}
use Rattle.vector.specs.declared.Vec3.{Vec3}
use Rattle.surfaces.specs.Surface.{inverse_of, squares_of, weighed, weight_at}
use Rattle.surfaces.proofs.weighed.Goals as goal

pub returns : goal.returns
unfolding weighed weight_at inverse_of
returns c =
    let fs = c.args.factors in
    let inverse = c.new-inverse.result in
    let none = vec nan nan nan in
    let e : inverse ≡ inverse_of (squares_of fs) =
    simp (
      c.new-inverse.ensures,
      c.inverse_or_zero-3.ensures,
      c.inverse_or_zero-2.ensures,
      c.inverse_or_zero.ensures,
      c.squares_of-squares.ensures,
    ) in
    map_same _ (λ f. component_mul f inverse) none _ _ _ 8 (λ x r f' k. search rules) (search rules) c.map.ensures.items
    ∙ sym (map-slots none (λ f. component_mul f inverse) fs (search rules))
    ∙ ap (λ (v : Vec3). slots (λ k. component_mul (vec_at fs k) v)) e

-- How large a vector's components are: through sums, products and a rotation by an attitude whose N is bounded. Assumes nothing.
use Prim.Native.Nat.{ℕ}
use lib.Dec.{T}
use lib.Ieee.{Float, add, binary32, le, mul, neg, round}
use lib.Ieee.Fits.{add-fits, mul-fits}
use mathlib.Core.Bool.{Bool, cond, false, false≢true, true}
use mathlib.Core.Path.{◌≡◌, refl}
use Rattle.float.proofs.Bounds.{inside-within}
use Rattle.float.proofs.Interval.{within_wider}
use Rattle.float.proofs.Mirror.{add-plus, square-plus}
use Rattle.float.proofs.Order.{le-neg}
use Rattle.float.proofs.Sizes.{Sized, first_part, root-sized, second-part, sized, sized-add, sized-mul, sized-neg, sized-sub, two_to}
use Rattle.float.specs.Interval.{Within, inside}
use Rattle.float.specs.Notation.{◌⊕◌, ◌⊗◌, two}
use Rattle.vector.specs.Rotation.{inverse_rotate_of, quat_norm, rotated, twist}
use Rattle.vector.specs.Vector.{add_of, cross_of, scale_of, sub_of, vec_inside}
use Rattle.vector.specs.declared.Quaternion.{Quaternion}
use Rattle.vector.specs.declared.Vec3.{Vec3}

-- ---- the test of a vector tells of each component
pub record VecWithin (limit : Float) (v : Vec3) : Type 0 where
  pub x : Within (neg limit) limit v.x
  pub y : Within (neg limit) limit v.y
  pub z : Within (neg limit) limit v.z

pub vec-within : (limit : Float) (v : Vec3) → vec_inside limit v ≡ true → VecWithin limit v
unfolding vec_inside
vec-within limit v e = go _ _ _ refl refl refl e
  where
    go : (a b c : Bool) → inside (neg limit) limit v.x ≡ a → inside (neg limit) limit v.y ≡ b → inside (neg limit) limit v.z ≡ c
        → cond a (cond b c false) false ≡ true → VecWithin limit v
    go true true true p q r h = record { x = inside-within p; y = inside-within q; z = inside-within r }
    go true true false p q r h = absurd (false≢true h)
    go true false c p q r h = absurd (false≢true h)
    go false b c p q r h = absurd (false≢true h)

-- ---- each component at most 2 ^ n in size
pub record VecSized (n : ℕ) (v : Vec3) : Type 0 where
  pub x : Sized n v.x
  pub y : Sized n v.y
  pub z : Sized n v.z

pub within-sized : {limit : Float} {v : Vec3} (n : ℕ) → VecWithin limit v → T (le limit (two_to n)) → VecSized n v
within-sized {limit} n w h = record { x = one w.x; y = one w.y; z = one w.z }
  where
    one : {c : Float} → Within (neg limit) limit c → Sized n c
    one {c} k = record { within = within_wider (neg limit) limit (neg (two_to n)) (two_to n) c (le-neg limit (two_to n) h) h k }

add-sized : {n m : ℕ} {u v : Vec3} (k : ℕ) → VecSized n u → VecSized m v → T (le (add binary32 (two_to n) (two_to m)) (two_to k)) → VecSized k (add_of u v)
unfolding add_of
add-sized k s t h = record { x = sized-add k s.x t.x h; y = sized-add k s.y t.y h; z = sized-add k s.z t.z h }

pub sub-sized : {n m : ℕ} {u v : Vec3} (k : ℕ) → VecSized n u → VecSized m v → T (le (add binary32 (two_to n) (two_to m)) (two_to k)) → VecSized k (sub_of u v)
unfolding sub_of
sub-sized k s t h = record { x = sized-sub k s.x t.x h; y = sized-sub k s.y t.y h; z = sized-sub k s.z t.z h }

scale-sized : {n m : ℕ} {u : Vec3} {f : Float} (k : ℕ) → VecSized n u → Sized m f → T (le (mul binary32 (two_to n) (two_to m)) (two_to k))
    → VecSized k (scale_of u f)
unfolding scale_of
scale-sized k s t h = record { x = sized-mul k s.x t h; y = sized-mul k s.y t h; z = sized-mul k s.z t h }

-- j for the products, k for their differences
cross-sized : {n m : ℕ} {u v : Vec3} (j k : ℕ) → VecSized n u → VecSized m v → T (le (mul binary32 (two_to n) (two_to m)) (two_to j))
    → T (le (add binary32 (two_to j) (two_to j)) (two_to k)) → VecSized k (cross_of u v)
unfolding cross_of
cross-sized j k s t p q = record {
  x = sized-sub k (sized-mul j s.y t.z p) (sized-mul j s.z t.y p) q;
  y = sized-sub k (sized-mul j s.z t.x p) (sized-mul j s.x t.z p) q;
  z = sized-sub k (sized-mul j s.x t.y p) (sized-mul j s.y t.x p) q;
}

-- ---- an attitude whose N is bounded below 4, as the envelope's is
pub record QuatSized (n : ℕ) (q : Quaternion) : Type 0 where
  pub w : Sized n q.w
  pub i : Sized n q.i
  pub j : Sized n q.j
  pub k : Sized n q.k

pub norm-sized : (q : Quaternion) (c : Float) → (T (le (two_to 2) c) → ⊥) → T (le (quat_norm q) c) → QuatSized 1 q
unfolding quat_norm
norm-sized q c small h =
    let ii = q.i ⊗ q.i in
    let jj = q.j ⊗ q.j in
    let kk = q.k ⊗ q.k in
    let ww = q.w ⊗ q.w in
    let i+ = square-plus binary32 q.i in
    let j+ = square-plus binary32 q.j in
    let k+ = square-plus binary32 q.k in
    let w+ = square-plus binary32 q.w in
    let ij+ = add-plus binary32 ii jj i+ j+ in
    let ijk+ = add-plus binary32 (ii ⊕ jj) kk ij+ k+ in
    let three : T (le (ii ⊕ jj ⊕ kk) c) = first_part (ii ⊕ jj ⊕ kk) ww c ijk+ w+ (add-fits binary32 (ii ⊕ jj) kk) h in
    let both : T (le (ii ⊕ jj) c) = first_part (ii ⊕ jj) kk c ij+ k+ (add-fits binary32 ii jj) three in
    record {
      w = root-sized q.w c small (second-part (ii ⊕ jj ⊕ kk) ww c ijk+ w+ (mul-fits binary32 q.w q.w) h);
      i = root-sized q.i c small (first_part ii jj c i+ j+ (mul-fits binary32 q.i q.i) both);
      j = root-sized q.j c small (second-part ii jj c i+ j+ (mul-fits binary32 q.j q.j) both);
      k = root-sized q.k c small (second-part (ii ⊕ jj) kk c ij+ k+ (mul-fits binary32 q.k q.k) three);
    }

-- ---- a speed of at most 2 ^ 11 on body axes
rotated-sized : {a : Float} {u v : Vec3} → Sized 1 a → VecSized 1 u → VecSized 11 v → VecSized 18 (rotated a u v)
unfolding rotated twist
rotated-sized s u v =
    let doubled : Sized 1 two = sized 1 (unfold le neg in tt) (unfold le in tt) in
    let twisted = scale-sized 14 (cross-sized 12 13 u v (unfold le mul round in tt) (unfold le add round in tt)) doubled (unfold le mul round in tt) in
    let first = scale-sized 15 twisted s (unfold le mul round in tt) in
    let second = cross-sized 15 16 u twisted (unfold le mul round in tt) (unfold le add round in tt) in
    add-sized 18 (add-sized 17 first second (unfold le add round in tt)) v (unfold le add round in tt)

pub inverse-rotate-sized : (q : Quaternion) {v : Vec3} → QuatSized 1 q → VecSized 11 v → VecSized 18 (inverse_rotate_of q v)
unfolding inverse_rotate_of
inverse-rotate-sized q s v = rotated-sized s.w (record { x = sized-neg s.i; y = sized-neg s.j; z = sized-neg s.k }) v

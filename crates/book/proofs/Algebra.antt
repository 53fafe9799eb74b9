-- The laws of an exact field by which formulas are compared. Assumes nothing.
use mathlib.Core.Logic.{◌≢◌}
use mathlib.Core.Path.{◌∙◌, ◌≡◌, ap, sym}
use Rattle.book.specs.Numbers.{Field}

module _ {K : Type 0} (𝓕 : Field K) where
  open 𝓕.ring use {add as ◌+◌, mul as ◌*◌, zero as 𝟘, neg as -◌, one as 𝟙}

  infixl 65 ◌+◌
  infixl 70 ◌*◌
  infix 75 -◌
  pub mul_assoc : (x y z : K) → x * y * z ≡ x * (y * z)
  mul_assoc = 𝓕.ring.is_comm_ring.is_ring.is_semiring.is_non_unital_semiring.mul_assoc

  pub mul_comm : (x y : K) → x * y ≡ y * x
  mul_comm = 𝓕.ring.is_comm_ring.mul_comm

  pub mul_left_comm : (x y z : K) → x * (y * z) ≡ y * (x * z)
  mul_left_comm x y z = sym (mul_assoc x y z) ∙ ap (λ (t : K). t * z) (mul_comm x y) ∙ mul_assoc y x z

  pub left_distrib : (x y z : K) → x * (y + z) ≡ x * y + x * z
  left_distrib = 𝓕.ring.is_comm_ring.is_ring.is_semiring.is_non_unital_semiring.is_non_unital_non_assoc_semiring.left_distrib

  pub right_distrib : (x y z : K) → (x + y) * z ≡ x * z + y * z
  right_distrib = 𝓕.ring.is_comm_ring.is_ring.is_semiring.is_non_unital_semiring.is_non_unital_non_assoc_semiring.right_distrib

  pub add_assoc : (x y z : K) → x + y + z ≡ x + (y + z)
  add_assoc =
      𝓕.ring.is_comm_ring.is_ring.is_semiring.is_non_unital_semiring.is_non_unital_non_assoc_semiring.is_add_comm_monoid.is_add_monoid.is_add_semigroup.add_assoc

  pub add_comm : (x y : K) → x + y ≡ y + x
  add_comm = 𝓕.ring.is_comm_ring.is_ring.is_semiring.is_non_unital_semiring.is_non_unital_non_assoc_semiring.is_add_comm_monoid.add_comm

  pub add_left_comm : (x y z : K) → x + (y + z) ≡ y + (x + z)
  add_left_comm x y z = sym (add_assoc x y z) ∙ ap (λ (t : K). t + z) (add_comm x y) ∙ add_assoc y x z

  pub zero-add : (x : K) → 𝟘 + x ≡ x
  zero-add = 𝓕.ring.is_comm_ring.is_ring.is_semiring.is_non_unital_semiring.is_non_unital_non_assoc_semiring.is_add_comm_monoid.is_add_monoid.zero-add

  pub add-zero : (x : K) → x + 𝟘 ≡ x
  add-zero = 𝓕.ring.is_comm_ring.is_ring.is_semiring.is_non_unital_semiring.is_non_unital_non_assoc_semiring.is_add_comm_monoid.is_add_monoid.add-zero

  pub zero-mul : (x : K) → 𝟘 * x ≡ 𝟘
  zero-mul = 𝓕.ring.is_comm_ring.is_ring.is_semiring.is_non_unital_semiring.is_non_unital_non_assoc_semiring.zero-mul

  pub mul-zero : (x : K) → x * 𝟘 ≡ 𝟘
  mul-zero = 𝓕.ring.is_comm_ring.is_ring.is_semiring.is_non_unital_semiring.is_non_unital_non_assoc_semiring.mul-zero

  pub one-mul : (x : K) → 𝟙 * x ≡ x
  one-mul = 𝓕.ring.is_comm_ring.is_ring.is_semiring.one-mul

  pub mul-one : (x : K) → x * 𝟙 ≡ x
  mul-one = 𝓕.ring.is_comm_ring.is_ring.is_semiring.mul-one

  pub neg-add_cancel : (x : K) → - x + x ≡ 𝟘
  neg-add_cancel = 𝓕.ring.is_comm_ring.is_ring.neg-add_cancel

  pub add_neg_cancel : (x : K) → x + - x ≡ 𝟘
  add_neg_cancel x = add_comm x (- x) ∙ neg-add_cancel x

  -- ---- negation
  -- a number is told by what it comes to with another
  negation-is : (x y : K) → y + x ≡ 𝟘 → y ≡ - x
  negation-is x y h =
      sym (add-zero y) ∙ ap (λ (t : K). y + t) (sym (neg-add_cancel x) ∙ add_comm _ _) ∙ sym (add_assoc y x (- x)) ∙ ap (λ (t : K). t + - x) h ∙ zero-add _

  pub neg-zero : - 𝟘 ≡ 𝟘
  neg-zero = sym (negation-is 𝟘 𝟘 (add-zero 𝟘))

  pub neg-mul : (x y : K) → - x * y ≡ - (x * y)
  neg-mul x y = negation-is (x * y) (- x * y) (sym (right_distrib (- x) x y) ∙ ap (λ (t : K). t * y) (neg-add_cancel x) ∙ zero-mul y)

  pub mul-neg : (x y : K) → x * - y ≡ - (x * y)
  mul-neg x y = mul_comm x (- y) ∙ neg-mul y x ∙ ap -◌ (mul_comm y x)

  pub neg-neg : (x : K) → - - x ≡ x
  neg-neg x = sym (negation-is (- x) x (add_comm _ _ ∙ neg-add_cancel x))

  pub neg-add : (x y : K) → - (x + y) ≡ - x + - y
  neg-add x y =
      sym (negation-is (x + y) (- x + - y) (sorted ∙ ap (λ (t : K). t + (- y + y)) (neg-add_cancel x) ∙ zero-add _ ∙ neg-add_cancel y))
    where
      sorted : - x + - y + (x + y) ≡ - x + x + (- y + y)
      sorted = simp (add_assoc, add_comm, add_left_comm)

  pub ruleset zeros = (zero-add, add-zero, zero-mul, mul-zero)

  -- ---- what is multiplied out and sorted: two sides that come to the same sum of products are equal
  pub ruleset ring = (
    left_distrib,
    right_distrib,
    mul_assoc,
    mul_comm,
    mul_left_comm,
    add_assoc,
    add_comm,
    add_left_comm,
    zeros,
    one-mul,
    mul-one,
    neg-mul,
    mul-neg,
    neg-neg,
    neg-add,
  )

  -- y = x + (y - x)
  pub apart : (x y : K) → x + (y + - x) ≡ y
  apart x y = sorted ∙ ap (λ (t : K). y + t) (neg-add_cancel x) ∙ add-zero y
    where
      sorted : x + (y + - x) ≡ y + (- x + x)
      sorted = simp (add_comm, add_left_comm)

  -- y = (x y) x⁻¹
  pub undone : (x y : K) → x ≢ 𝟘 → y ≡ x * y * 𝓕.inverse x
  undone x y h = sym (mul-one y) ∙ ap (λ (t : K). y * t) (sym (𝓕.inverts x h)) ∙ simp ring

  product-not-zero : (x y : K) → x ≢ 𝟘 → y ≢ 𝟘 → x * y ≢ 𝟘
  product-not-zero x y h k e = k (undone x y h ∙ ap (λ (t : K). t * 𝓕.inverse x) e ∙ zero-mul _)

  -- (x y)⁻¹ = x⁻¹ y⁻¹
  pub inverse-mul : (x y : K) → x ≢ 𝟘 → y ≢ 𝟘 → 𝓕.inverse (x * y) ≡ 𝓕.inverse x * 𝓕.inverse y
  inverse-mul x y h k =
      undone x (𝓕.inverse (x * y)) h ∙ undone y _ k
      ∙ go (𝓕.inverse (x * y)) (𝓕.inverse x) (𝓕.inverse y) (𝓕.inverts (x * y) (product-not-zero x y h k))
    where
      go : (i j l : K) → x * y * i ≡ 𝟙 → y * (x * i * j) * l ≡ j * l
      go i j l e = sorted ∙ ap (λ (t : K). j * l * t) e ∙ mul-one (j * l)
        where
          sorted : y * (x * i * j) * l ≡ j * l * (x * y * i)
          sorted = simp ring

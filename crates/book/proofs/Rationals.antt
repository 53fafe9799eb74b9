-- There is such a field: the rational numbers. So no law here holds for want of one. Assumes nothing.
use Prim.Native.Nat.{◌*◌, ◌+◌, ◌-◌, ◌<◌, ◌≤◌, ℕ}
use mathlib.Core.HLevel.{Π_prop, Π_set, Σ_prop_path}
use mathlib.Core.Logic.{Dec-prop, ◌≢◌}
use mathlib.Core.Path.{◌∙◌, ◌≡◌, ap, ap₂, fun_ext, sym}
use mathlib.Core.Quot.Quotient
use mathlib.Core.Quot.{Quot, Quot-set, lift, mk, sound, Setoid, ind}
use native.Mathlib.Decide.{dec_lt, map_dec, ℕ_discrete}
use native.Mathlib.Nat.{le_of_mul-le-mul_left, mul-pos, sub-add_cancel, ℕ_set}
use native.Mathlib.Omega.{arith}
use Rattle.book.specs.Numbers.{Field, count}

-- (up - down) / under
pub record Fraction : Type 0 where
  pub up : ℕ
  pub down : ℕ
  pub under : ℕ
  pub positive : 0 < under

-- multiplied crosswise they are equal
abbrev pub same : Fraction → Fraction → Type 0
same x y = x.up * y.under + y.down * x.under ≡ y.up * x.under + x.down * y.under

-- the fractions, where the same ones are equal
abbrev pub ℚ : Type 0
ℚ = Quot same

abbrev whole : ℕ → Fraction
whole n = record { up = n; down = 0; under = 1; positive = omega arith }

abbrev plus : Fraction → Fraction → Fraction
plus x y = record {
  up = x.up * y.under + y.up * x.under;
  down = x.down * y.under + y.down * x.under;
  under = x.under * y.under;
  positive = mul-pos x.positive y.positive;
}

abbrev times : Fraction → Fraction → Fraction
times x y = record {
  up = x.up * y.up + x.down * y.down;
  down = x.up * y.down + x.down * y.up;
  under = x.under * y.under;
  positive = mul-pos x.positive y.positive;
}

times-plus : (x y z : Fraction) → same (times x (plus y z)) (plus (times x y) (times x z))
times-plus x y z = scaled (times x (plus y z)) (plus (times x y) (times x z)) x.under (omega arith) (omega arith) (omega arith)
  where
    scaled : (v w : Fraction) (k : ℕ) → w.up ≡ k * v.up → w.down ≡ k * v.down → w.under ≡ k * v.under → same v w
    scaled v w k e f g = rw (e, f, g) (omega arith)

same-trans : (x y z : Fraction) → same x y → same y z → same x z
same-trans x y z h k = cancel y.under y.positive (omega (arith, ap (λ (t : ℕ). z.under * t) h, ap (λ (t : ℕ). x.under * t) k))
  where
    cancel-le : (n : ℕ) {a b : ℕ} → 0 < n → n * a ≡ n * b → a ≤ b
    cancel-le n l e = le_of_mul-le-mul_left {k = n} (omega arith) l

    cancel : (n : ℕ) {a b : ℕ} → 0 < n → n * a ≡ n * b → a ≡ b
    cancel n {a} {b} l e = omega (arith, cancel-le n {a = a} {b = b} l e, cancel-le n {a = b} {b = a} l (sym e))

abbrev fractions : Setoid {0, 0} Fraction
fractions = record { r = same; iseqv = record { refl = λ x. omega arith; symm = λ x y h. omega arith; trans = same-trans } }

-- only the same fractions are equal
exact : (x y : Fraction) → ◌≡◌ {A = ℚ} (mk x) (mk y) → same x y
exact x y = Quotient.exact fractions (λ x y. ℕ_set _ _)

-- an operation that does not tell the same fractions apart, as one on rationals
abbrev lift₂ : (f : Fraction → Fraction → Fraction) → ((x y : Fraction) → same (f x y) (f y x)) →
    ((x y z : Fraction) → same x y → same (f x z) (f y z)) → ℚ → ℚ → ℚ
lift₂ f c l = lift (Π_set (λ _. Quot-set))
    (λ x. lift Quot-set (λ y. mk (f x y)) (λ y z h. sound {b = f y x} (c x y) ∙ sound {b = f z x} (l y z x h) ∙ sound (c z x)))
    (λ x y h. fun_ext (ind (λ q. Quot-set _ _) (λ z. sound (l x y z h))))

add : ℚ → ℚ → ℚ
add = lift₂ plus (λ x y. omega arith) (λ x y z h. omega (arith, ap (λ (t : ℕ). t * (z.under * z.under)) h))

mul : ℚ → ℚ → ℚ
mul = lift₂ times (λ x y. omega arith) (λ x y z h. omega (arith, ap (λ (t : ℕ). t * (z.up * z.under)) h, ap (λ (t : ℕ). t * (z.down * z.under)) h))

neg : ℚ → ℚ
neg = lift Quot-set (λ x. mk (record { up = x.down; down = x.up; under = x.under; positive = x.positive })) (λ x y h. sound (omega arith))

abbrev 𝟘 : ℚ
𝟘 = mk (whole 0)

abbrev 𝟙 : ℚ
𝟙 = mk (whole 1)

-- formulas that agree on fractions agree
all : (f g : ℚ → ℚ) → ((x : Fraction) → f (mk x) ≡ g (mk x)) → (x : ℚ) → f x ≡ g x
all f g h = ind (λ q. Quot-set (f q) (g q)) h

all₂ : (f g : ℚ → ℚ → ℚ) → ((x y : Fraction) → f (mk x) (mk y) ≡ g (mk x) (mk y)) → (x y : ℚ) → f x y ≡ g x y
all₂ f g h x y = all (λ x. f x y) (λ x. g x y) (λ x. all (f (mk x)) (g (mk x)) (h x) y) x

all₃ : (f g : ℚ → ℚ → ℚ → ℚ) → ((x : Fraction) (y z : ℚ) → f (mk x) y z ≡ g (mk x) y z) → (x y z : ℚ) → f x y z ≡ g x y z
all₃ f g h x y z = all (λ x. f x y z) (λ x. g x y z) (λ x. h x y z) x

mul_comm : (x y : ℚ) → mul x y ≡ mul y x
unfolding mul
mul_comm = all₂ _ _ (λ x y. sound (omega arith))

mul_assoc : (x y z : ℚ) → mul (mul x y) z ≡ mul x (mul y z)
unfolding mul
mul_assoc = all₃ _ _ (λ x. all₂ _ _ (λ y z. sound (omega arith)))

one-mul : (x : ℚ) → mul 𝟙 x ≡ x
unfolding mul
one-mul = all _ _ (λ x. sound (omega arith))

left_distrib : (x y z : ℚ) → mul x (add y z) ≡ add (mul x y) (mul x z)
unfolding mul add
left_distrib = all₃ _ _ (λ x. all₂ _ _ (λ y z. sound (times-plus x y z)))

-- it can be told whether a rational is 0
is_zero : (x : ℚ) → Dec (x ≡ 𝟘)
is_zero = ind (λ q. Dec-prop (Quot-set _ _)) go
  where
    go : (x : Fraction) → Dec (◌≡◌ {A = ℚ} (mk x) 𝟘)
    go x = map_dec (λ e. sound (omega arith)) (λ p. omega (arith, exact x (whole 0) p)) (ℕ_discrete x.up x.down)

abbrev Inverse : ℚ → Type 0
Inverse x = (y : ℚ) × (mul x y ≡ 𝟙)

-- there is at most one inverse
inverse-prop : (x : ℚ) → IsProp (Inverse x)
inverse-prop x v w = Σ_prop_path (λ t. Quot-set _ _) (equal v.0 w.0 v.1 w.1)
  where
    equal : (y z : ℚ) → mul x y ≡ 𝟙 → mul x z ≡ 𝟙 → y ≡ z
    equal y z p q = sym (one-mul y) ∙ rw (← q, mul_comm x z, mul_assoc, p, mul_comm z 𝟙) (one-mul z)

-- and there is one of all but 0
invert : (x : ℚ) → x ≢ 𝟘 → Inverse x
unfolding mul
invert = ind (λ q. Π_prop (λ h. inverse-prop q)) (λ x h. go x h (dec_lt x.down x.up) (dec_lt x.up x.down))
  where
    go : (x : Fraction) → ◌≢◌ {A = ℚ} (mk x) 𝟘 → Dec (x.down < x.up) → Dec (x.up < x.down) → Inverse (mk x)
    go x h (yes l) r =
        let y : Fraction = record { up = x.under; down = 0; under = x.up - x.down; positive = omega arith } in
        (mk y, sound (omega (arith, ap (λ (t : ℕ). t * x.under) (sub-add_cancel {n = x.up} {m = x.down} (omega arith)))))
    go x h (no l) (yes r) =
        let y : Fraction = record { up = 0; down = x.under; under = x.down - x.up; positive = omega arith } in
        (mk y, sound (omega (arith, ap (λ (t : ℕ). t * x.under) (sub-add_cancel {n = x.down} {m = x.up} (omega arith)))))
    go x h (no l) (no r) = absurd (h (sound (omega arith)))

abbrev inverse-by : (x : ℚ) → Dec (x ≡ 𝟘) → ℚ
inverse-by x (yes e) = 𝟘
inverse-by x (no h) = (invert x h).0

inverse : ℚ → ℚ
inverse x = inverse-by x (is_zero x)

inverts : (x : ℚ) → x ≢ 𝟘 → mul x (inverse x) ≡ 𝟙
unfolding inverse
inverts x h = elim (is_zero x) as (λ d. mul x (inverse-by x d) ≡ 𝟙) [ yes e ↦ absurd (h e) | no k ↦ (invert x k).1 ]

two-not-zero : add (add 𝟘 𝟙) 𝟙 ≢ 𝟘
unfolding add
two-not-zero e = omega (arith, exact (plus (plus (whole 0) (whole 1)) (whole 1)) (whole 0) e)

pub rationals : Field ℚ
unfolding add mul neg count
rationals = record {
  ring = record {
    add = add;
    mul = mul;
    zero = 𝟘;
    neg = neg;
    one = 𝟙;
    is_comm_ring = record {
      is_ring = record {
        is_semiring = record {
          is_non_unital_semiring = record {
            is_non_unital_non_assoc_semiring = record {
              is_add_comm_monoid = record {
                is_add_monoid = record {
                  is_add_semigroup = record { is_set = Quot-set; add_assoc = all₃ _ _ (λ x. all₂ _ _ (λ y z. sound (omega arith))) };
                  zero-add = all _ _ (λ x. sound (omega arith));
                  add-zero = all _ _ (λ x. sound (omega arith));
                };
                add_comm = all₂ _ _ (λ x y. sound (omega arith));
              };
              left_distrib = left_distrib;
              right_distrib = λ x y z. mul_comm (add x y) z ∙ left_distrib z x y ∙ ap₂ add (mul_comm z x) (mul_comm z y);
              zero-mul = all _ _ (λ x. sound (omega arith));
              mul-zero = all _ _ (λ x. sound (omega arith));
            };
            mul_assoc = mul_assoc;
          };
          one-mul = one-mul;
          mul-one = all _ _ (λ x. sound (omega arith));
        };
        neg-add_cancel = all _ _ (λ x. sound (omega arith));
      };
      mul_comm = mul_comm;
    };
  };
  inverse = inverse;
  inverts = inverts;
  two-not-zero = two-not-zero;
}

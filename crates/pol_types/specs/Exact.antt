-- What `==` tells of lists whose items it compares exactly.
use Rattle.std.specs.Prelude.{◌≡◌, ◌⊎◌, ℕ, Bool, true, false, List, [], ◌∷◌, nat_eq, refl}
use Rattle.std.specs.Cmp.{first_so, second_so}
use Rattle.std.specs.Cmp.Lexicographic.{pointwise, same_text}
use Rattle.std.proofs.Common.{sym, inl, inr, arith}

-- lists that compare as equal are equal, where only equal items do
pub pointwise_exact : {A : Type 0} {E : A → A → Bool} → ((x y : A) → E x y ≡ true → x ≡ y) → (xs ys : List A) → pointwise E xs ys ≡ true → xs ≡ ys
pointwise_exact exact [] [] same = refl
pointwise_exact exact [] (y ∷ ys) same = cc
pointwise_exact exact (x ∷ xs) [] same = cc
pointwise_exact {A} {E} exact (x ∷ xs) (y ∷ ys) same =
    λ i. exact x y (first_so (E x y) (pointwise E xs ys) same) i
    ∷ pointwise_exact exact xs ys (second_so (E x y) (pointwise E xs ys) same) i

-- a test that is exact where it holds
told : {P : Type 0} (b : Bool) → (b ≡ true → P) → (b ≡ false) ⊎ P
told true tell = inr (tell refl)
told false tell = inl refl

-- what the comparison of two byte lists tells
pub bytes_tell : (xs ys : List ℕ) → (pointwise nat_eq xs ys ≡ false) ⊎ (xs ≡ ys)
bytes_tell xs ys = told (pointwise nat_eq xs ys) (λ same. same_text xs ys (sym same))

-- what the comparison of two lists of texts tells
pub texts_tell : (xs ys : List (List ℕ)) → (pointwise (pointwise nat_eq) xs ys ≡ false) ⊎ (xs ≡ ys)
texts_tell xs ys =
    told (pointwise (pointwise nat_eq) xs ys) (pointwise_exact (λ x y same. same_text x y (sym same)) xs ys)

-- `Prim.grind exactness` proves that a derived `==` is exact, for fields that are numbers, flags, texts, bytes,
-- lists of texts, and options and enums of these
pub ruleset exactness = (arith, bytes_tell, texts_tell)

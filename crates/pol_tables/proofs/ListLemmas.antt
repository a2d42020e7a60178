-- Truth values, what holds of each item of a list, and what a filter makes of it.
use Rattle.std.proofs.Common.{◌≡◌, Bool, true, false, cond, ◌&&◌, ◌||◌, List, [], ◌∷◌, ◌++◌, map, filter, refl, ap}
use Rattle.std.specs.List.{AllByRecursion}

pub and_true : (b : Bool) → (b && true) ≡ b
and_true true = refl
and_true false = refl

pub and_false : (b : Bool) → (b && false) ≡ false
and_false true = refl
and_false false = refl

pub or_true : (b : Bool) → (b || true) ≡ true
or_true true = refl
or_true false = refl

pub or_false : (b : Bool) → (b || false) ≡ b
or_false true = refl
or_false false = refl

pub or_swapped : (a b c : Bool) → (a || (b || c)) ≡ (b || (a || c))
or_swapped true true c = refl
or_swapped true false c = refl
or_swapped false true c = refl
or_swapped false false c = refl

module _ {X : Type 0} (P : X → Type 0) where
  pub each-append : (xs ys : List X) → AllByRecursion P xs → AllByRecursion P ys → AllByRecursion P (xs ++ ys)
  each-append [] ys all more = more
  each-append (x ∷ xs) ys all more = (all.0, each-append xs ys all.1 more)

  pub each-push : (xs : List X) (x : X) → AllByRecursion P xs → P x → AllByRecursion P (xs ++ x ∷ [])
  each-push xs x all here = each-append xs (x ∷ []) all (here, tt)

  pub each-filter : (keep : X → Bool) (xs : List X) → AllByRecursion P xs → AllByRecursion P (filter keep xs)
  each-filter keep [] all = tt
  each-filter keep (x ∷ xs) all =
      let rest = each-filter keep xs all.1 in
      elim (keep x) as (λ b. AllByRecursion P (cond b (x ∷ filter keep xs) (filter keep xs))) [ true ↦ (all.0, rest) | false ↦ rest ]

  pub each-map : {Y : Type 0} (f : Y → X) (ys : List Y) → AllByRecursion (λ y. P (f y)) ys → AllByRecursion P (map f ys)
  each-map f [] all = tt
  each-map f (y ∷ ys) all = (all.0, each-map f ys all.1)

  pub each-all : (xs : List X) → ((x : X) → P x) → AllByRecursion P xs
  each-all [] every = tt
  each-all (x ∷ xs) every = (every x, each-all xs every)

pub each-weaken : {X : Type 0} (P Q : X → Type 0) (xs : List X) → ((x : X) → P x → Q x) → AllByRecursion P xs → AllByRecursion Q xs
each-weaken P Q [] so all = tt
each-weaken P Q (x ∷ xs) so all = (so x all.0, each-weaken P Q xs so all.1)

pub each-join : {X : Type 0} (P Q S : X → Type 0) (xs : List X) → ((x : X) → P x → Q x → S x) → AllByRecursion P xs → AllByRecursion Q xs → AllByRecursion S xs
each-join P Q S [] so all also = tt
each-join P Q S (x ∷ xs) so all also = (so x all.0 also.0, each-join P Q S xs so all.1 also.1)

module _ {X : Type 0} (test : X → Bool) where
  pub filter-every : (xs : List X) → AllByRecursion (λ x. test x ≡ true) xs → filter test xs ≡ xs
  filter-every [] all = refl
  filter-every (x ∷ xs) all = rw all.0 (ap (λ kept. x ∷ kept) (filter-every xs all.1))

  pub filter-none : (xs : List X) → AllByRecursion (λ x. test x ≡ false) xs → filter test xs ≡ []
  filter-none [] all = refl
  filter-none (x ∷ xs) all = rw all.0 (filter-none xs all.1)

  pub filter-alike : (other : X → Bool) (xs : List X) → AllByRecursion (λ x. test x ≡ other x) xs → filter test xs ≡ filter other xs
  filter-alike other [] all = refl
  filter-alike other (x ∷ xs) all =
      rw all.0 (ap (λ kept. cond (other x) (x ∷ kept) kept) (filter-alike other xs all.1))

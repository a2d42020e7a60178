-- Sums over lists that a filter thins, and over lists in which one item takes its place.
use Rattle.std.proofs.Common.{◌≡◌, ◌≤◌, ◌+◌, ◌*◌, ℕ, Bool, true, false, List, [], ◌∷◌, ◌++◌, cond, drop, filter, length, refl, arith}
use Rattle.std.specs.List.{sum_by}
use Rattle.std.proofs.lemmas.Bool.{cond_both}
use Rattle.std.proofs.lemmas.List.Sums.{sum_by-append, sum_by-cons, sum_by-take-drop}

pub sum_filter : {A : Type 0} (f : A → ℕ) (keep : A → Bool) (xs : List A) → sum_by f (filter keep xs) ≤ sum_by f xs
sum_filter f keep [] = omega arith
sum_filter f keep (x ∷ xs) =
    let rest = sum_filter f keep xs in
    let whole = sum_by-cons f x xs in
    cond_both (keep x) (x ∷ filter keep xs) (filter keep xs) (λ kept. sum_by f kept ≤ sum_by f (x ∷ xs))
    (λ _. omega (arith, sum_by-cons f x (filter keep xs), whole, rest)) (λ _. omega (arith, whole, rest))

pub sum_drop : {A : Type 0} (f : A → ℕ) (count : ℕ) (xs : List A) → sum_by f (drop count xs) ≤ sum_by f xs
sum_drop f count xs = omega (arith, sum_by-take-drop f xs count)

-- items of which no two filters keep the same
sum_apart : {A : Type 0} (f : A → ℕ) (low high : A → Bool) (xs : List A) → ((x : A) → low x ≡ true → high x ≡ false)
    → sum_by f (filter low xs) + sum_by f (filter high xs) ≤ sum_by f xs
sum_apart f low high [] apart = omega arith
sum_apart f low high (x ∷ xs) apart = first (low x) refl (high x) refl (sum_apart f low high xs apart)
  where
    whole : sum_by f (x ∷ xs) ≡ f x + sum_by f xs
    whole = sum_by-cons f x xs

    first : (below : Bool) → low x ≡ below → (above : Bool) → high x ≡ above
        → sum_by f (filter low xs) + sum_by f (filter high xs) ≤ sum_by f xs
        → sum_by f (cond below (x ∷ filter low xs) (filter low xs)) + sum_by f (cond above (x ∷ filter high xs) (filter high xs))
        ≤ sum_by f (x ∷ xs)
    first true is true also rest = let clash : high x ≡ false = apart x is in absurd (cc)
    first true is false also rest = omega (arith, sum_by-cons f x (filter low xs), rest, whole)
    first false is true also rest = omega (arith, sum_by-cons f x (filter high xs), rest, whole)
    first false is false also rest = omega (arith, rest, whole)

pub sum_placed : {A : Type 0} (f : A → ℕ) (low high : A → Bool) (xs : List A) (y : A)
    → ((x : A) → low x ≡ true → high x ≡ false)
    → sum_by f (filter low xs ++ y ∷ filter high xs) ≤ sum_by f xs + f y
sum_placed f low high xs y apart =
    omega (arith, sum_by-append f (filter low xs) (y ∷ filter high xs), sum_by-cons f y (filter high xs), sum_apart f low high xs apart)

-- 64 for each item beside what it weighs
pub sum_of_each : {A : Type 0} (f : A → ℕ) (xs : List A) → sum_by (λ x. 64 + f x) xs ≡ 64 * length xs + sum_by f xs
sum_of_each f [] = refl
sum_of_each f (x ∷ xs) =
    omega (arith, sum_by-cons (λ y. 64 + f y) x xs, sum_by-cons f x xs, sum_of_each f xs)

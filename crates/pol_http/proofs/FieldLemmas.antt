-- Tests of the fields, and their values one by one.
use Rattle.std.proofs.Common.{◌≡◌, ℕ, ◌+◌, ◌-◌, ◌*◌, ◌<◌, Bool, true, ◌||◌, List, [], ◌∷◌, ◌++◌, map, filter, min, take, drop, get_or, length, cond, None, refl, sym, ap, ◌∙◌, arith, take-append-drop}
use Rattle.std.specs.List.{list_any}
use Rattle.std.specs.Char.{is_ascii_digit, digit_value}
use Rattle.std.specs.Str.Parse.{digits_value}
use Rattle.std.proofs.lemmas.Int.Digits.{digits_value_more}
use Rattle.std.proofs.lemmas.Bool.Decides.{nat_tests}
use Rattle.std.proofs.lemmas.List.{drop_more, map-append}
use Rattle.std.proofs.lemmas.List.Elements.{filter-append}
use Rattle.pol_http.specs.Fields.{is_named, values_of, content_length}

pub list_any-map : {X Y : Type 0} (p : Y → Bool) (f : X → Y) (xs : List X)
    → list_any p (map f xs) ≡ list_any (λ x. p (f x)) xs
list_any-map p f [] = refl
list_any-map p f (x ∷ xs) = ap (λ b. p (f x) || b) (list_any-map p f xs)

pub digit_value-digit : (b : ℕ) → is_ascii_digit b ≡ true → digit_value b + 48 ≡ b
digit_value-digit b digit = grind (arith, nat_tests)

-- one more digit on a number that is cut off at a bound
pub number_more : (digits : List ℕ) (i bound value : ℕ) → i < length digits → 0 < bound
    → is_ascii_digit (get_or digits i 0) ≡ true → value ≡ min bound (digits_value 10 (take i digits))
    → min (value * 10 + (get_or digits i 0 - 48)) bound ≡ min bound (digits_value 10 (take (i + 1) digits))
number_more digits i bound value inside some digit so_far =
    rw (digits_value_more 10 digits i inside)
    (add (digits_value 10 (take i digits)) (digit_value (get_or digits i 0)) (get_or digits i 0 - 48) so_far
    (omega (arith, digit_value-digit (get_or digits i 0) digit)))
  where
    add : (before weight code : ℕ) → value ≡ min bound before → code ≡ weight
        → min (value * 10 + code) bound ≡ min bound (before * 10 + weight)
    add before weight code is same = omega arith

pub values_of-append : (name : List ℕ) (fs gs : List (List ℕ × List ℕ))
    → values_of name (fs ++ gs) ≡ values_of name fs ++ values_of name gs
values_of-append name fs gs =
    ap (map (λ field. field.1)) (filter-append (is_named name) fs gs)
    ∙ map-append (λ field. field.1) (filter (is_named name) fs) (filter (is_named name) gs)

-- a second value after a first is no length
pub content_length_twice : {X : Type 0} (name : List ℕ) (f : X → List ℕ × List ℕ) (xs : List X) (i : ℕ) (d : X)
    → i < length xs → is_named name (f (get_or xs i d)) ≡ true → (value : List ℕ)
    → values_of name (map f (take i xs)) ≡ value ∷ [] → content_length (values_of name (map f xs)) ≡ None
content_length_twice name f xs i d inside named value once =
    let field = get_or xs i d in
    let later = map f (drop (i + 1) xs) in
    let split : map f xs ≡ map f (take i xs) ++ (f field ∷ later) =
    ap (map f) (sym (take-append-drop i xs) ∙ ap (λ t. take i xs ++ t) (drop_more xs i d inside)) ∙ map-append f _ _ in
    let second : values_of name (f field ∷ later) ≡ (f field).1 ∷ values_of name later =
    ap (λ b. map (λ g. g.1) (cond b (f field ∷ filter (is_named name) later) (filter (is_named name) later))) named in
    ap content_length (ap (values_of name) split ∙ values_of-append name _ _ ∙ (λ k. once k ++ second k))

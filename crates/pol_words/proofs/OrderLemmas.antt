-- Options that are given in some order.
use Rattle.std.proofs.Common.{◌≡◌, ◌≢◌, ℕ, List, [], ◌∷◌, ◌++◌, None, length, sym, ap, subst, ◌∙◌, arith}
use Rattle.std.specs.Prelude.{Some}
use Rattle.std.specs.List.{All, zip}
use Rattle.std.specs.List.Sorted.{IsPermutation}
use Rattle.std.proofs.lemmas.List.{length-append, length-map, nil_from_length}
use Rattle.std.proofs.lemmas.List.Elements.{All-head, All-tail}
use Rattle.std.proofs.lemmas.List.Sorted.{All-permutation, IsPermutation-cons, IsPermutation-middle, IsPermutation-refl, IsPermutation-trans, length_permutation}
use Rattle.pol_words.specs.Options.{AreNotThisMany, AreOptions, AreThisMany, GivesValues, Has, HasValue, names_of}
use Rattle.pol_words.proofs.OptionLemmas.{has-more}

-- a name is none of these
abbrev pub DiffersFrom : List ℕ → List (List ℕ) → Type 0
DiffersFrom name [] = Unit {0}
DiffersFrom name (other ∷ others) = (name ≢ other) × DiffersFrom name others

-- no two names are the same
abbrev pub Differ : List (List ℕ) → Type 0
Differ [] = Unit {0}
Differ (name ∷ names) = DiffersFrom name names × Differ names

-- the options of these names and values are among the given ones
abbrev pub HasEach : List (List ℕ × List ℕ) → List (List ℕ) → List (List ℕ) → Type 0
HasEach given [] values = Unit {0}
HasEach given (name ∷ names) [] = ⊥
HasEach given (name ∷ names) (value ∷ values) = Has given (name, value) × HasEach given names values

-- what was read for each name
abbrev pub HaveValues : List (List ℕ) → List (List ℕ) → List (List ℕ) → Type 0
HaveValues words [] values = Unit {0}
HaveValues words (name ∷ names) [] = ⊥
HaveValues words (name ∷ names) (value ∷ values) = HasValue words name (Some value) × HaveValues words names values

-- an option that isn't the one taken out is among those that are left
other-has : (front back : List (List ℕ × List ℕ)) (p : List ℕ × List ℕ) (before behind : List (List ℕ × List ℕ)) (q : List ℕ × List ℕ) → p.0 ≢ q.0 → front ++ p ∷ back ≡ before ++ q ∷ behind → Has (front ++ back) q
other-has [] back p [] behind q differs is =
    let same : p.0 ≡ q.0 = cc in
    absurd (differs same)
other-has [] back p (x ∷ before) behind q differs is =
    let rest : back ≡ before ++ q ∷ behind = cc in
    (before, behind, rest)
other-has (y ∷ front) back p [] behind q differs is =
    let left : y ∷ (front ++ back) ≡ q ∷ (front ++ back) = cc in
    ([], front ++ back, left)
other-has (y ∷ front) back p (x ∷ before) behind q differs is =
    let rest : front ++ p ∷ back ≡ before ++ q ∷ behind = cc in
    has-more y (front ++ back) q (other-has front back p before behind q differs rest)

others-have : (front back : List (List ℕ × List ℕ)) (p : List ℕ × List ℕ) (names values : List (List ℕ)) → DiffersFrom p.0 names → HasEach (front ++ p ∷ back) names values → HasEach (front ++ back) names values
others-have front back p [] values differs each = tt
others-have front back p (name ∷ names) [] differs each = each
others-have front back p (name ∷ names) (value ∷ values) differs each =
    (other-has front back p each.0.0 each.0.1 (name, value) differs.0 each.0.2, others-have front back p names values differs.1 each.1)

-- options that are as many as the names, and have one of each, are these in some order
pub each-ordered : (names values : List (List ℕ)) (given : List (List ℕ × List ℕ)) → Differ names → length given ≡ length names → HasEach given names values → IsPermutation given (zip names values)
each-ordered [] values given differ counts each =
    subst (λ given. IsPermutation given []) (sym (nil_from_length given counts)) (IsPermutation-refl [])
each-ordered (name ∷ names) [] given differ counts each = absurd each
each-ordered (name ∷ names) (value ∷ values) given differ counts each =
    let front = each.0.0 in
    let back = each.0.1 in
    let left = front ++ back in
    let counted : length left ≡ length names = omega (arith, counts, ap length each.0.2, length-append front ((name, value) ∷ back), length-append front back) in
    let others = others-have front back (name, value) names values differ.0 (subst (λ given. HasEach given names values) each.0.2 each.1) in
    let ordered = each-ordered names values left differ.1 counted others in
    subst (λ given. IsPermutation given ((name, value) ∷ zip names values)) (sym each.0.2) (IsPermutation-trans _ _ _ (IsPermutation-middle front (name, value) back) (IsPermutation-cons (name, value) left (zip names values) ordered))

each-had : (words : List (List ℕ)) (given : List (List ℕ × List ℕ)) → AreOptions words given → (names values : List (List ℕ)) → HaveValues words names values → HasEach given names values
each-had words given are [] values has = tt
each-had words given are (name ∷ names) [] has = has
each-had words given are (name ∷ names) (value ∷ values) has = (has.0 given are, each-had words given are names values has.1)

-- words that are as many options as the names, with a value of each, are those options
pub values-given : (words names values : List (List ℕ)) → Differ names → AreThisMany words (length names) → HaveValues words names values → GivesValues words names (Some values)
values-given words names values differ many has =
    (many.0, many.1, each-ordered names values many.0 differ many.2 (each-had words many.0 many.1 names values has))

-- words that aren't as many options as the names aren't those options
pub too-many : (words names : List (List ℕ)) → AreNotThisMany words (length names) → GivesValues words names None
too-many words names many = λ options same ordered.
    many ordered.0 ordered.1 (sym (length_permutation ordered.0 options ordered.2) ∙ sym (length-map options (λ option. option.0)) ∙ ap length same)

unnamed : (name : List ℕ) (before after : List (List ℕ)) (options : List (List ℕ × List ℕ)) → All (λ option. option.0 ≢ name) options → names_of options ≡ before ++ name ∷ after → ⊥
unnamed name [] after [] all is = cc
unnamed name (first ∷ before) after [] all is = cc
unnamed name [] after (option ∷ options) all is =
    let same : option.0 ≡ name = cc in
    All-head (λ option. option.0 ≢ name) option options all same
unnamed name (first ∷ before) after (option ∷ options) all is =
    let rest : names_of options ≡ before ++ name ∷ after = cc in
    unnamed name before after options (All-tail (λ option. option.0 ≢ name) option options all) rest

-- words that have no option of one of the names aren't those options
pub lacking : (words : List (List ℕ)) (name : List ℕ) (before after : List (List ℕ)) → HasValue words name None → GivesValues words (before ++ name ∷ after) None
lacking words name before after lacks = λ options same ordered.
    let P : List ℕ × List ℕ → Type 0 = λ option. option.0 ≢ name in
    unnamed name before after options (All-permutation P ordered.0 options ordered.2 (lacks ordered.0 ordered.1)) same

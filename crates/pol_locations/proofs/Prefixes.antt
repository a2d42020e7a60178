-- Cover and overlap, and what their tests tell.
use Rattle.std.proofs.Common.{◌≡◌, ◌⊎◌, ℕ, ◌||◌, Bool, true, false, List, [], ◌∷◌, ◌++◌, length, take, drop, refl, ap, sym, ◌∙◌, inl, inr, arith, append_assoc, append-nil, length-append}
use Rattle.std.specs.Prelude.{◌↔◌, IsTrue}
use Rattle.std.specs.Cmp.Lexicographic.{bytes_decides, pointwise_decides}
use Rattle.std.proofs.lemmas.List.{take-append-drop, take_at}
use Rattle.pol_locations.specs.Location.{Covers, Overlaps, is_cover, is_overlap}

-- the test tells whether one list is a prefix of the other
pub Covers-from_test : (a b : List (List ℕ)) → is_cover a b ≡ true → Covers a b
Covers-from_test a b holds =
    (drop (length a) b, sym (take-append-drop (length a) b) ∙ ap (λ front. front ++ drop (length a) b) (sym ((pointwise_decides bytes_decides a (take (length a) b)).0 holds)))

pub test-from_Covers : (a b : List (List ℕ)) → Covers a b → is_cover a b ≡ true
test-from_Covers a b (rest, is) =
    (pointwise_decides bytes_decides a (take (length a) b)).1 (sym (ap (take (length a)) is ∙ take_at a rest (length a) refl))

pub Covers-tested : (a b : List (List ℕ)) (answer : Bool) → answer ≡ is_cover a b → IsTrue answer ↔ Covers a b
Covers-tested a b answer tested =
    ((λ holds. Covers-from_test a b (sym tested ∙ holds)), (λ covered. tested ∙ test-from_Covers a b covered))

either : (first second : Bool) → (first || second) ≡ true → (first ≡ true) ⊎ (second ≡ true)
either true second holds = inl refl
either false second holds = inr holds

first_of_both : (first second : Bool) → first ≡ true → (first || second) ≡ true
first_of_both true second holds = refl
first_of_both false second holds = cc

second_of_both : (first second : Bool) → second ≡ true → (first || second) ≡ true
second_of_both true second holds = refl
second_of_both false second holds = holds

pub Overlaps-from_test : (a b : List (List ℕ)) → is_overlap a b ≡ true → Overlaps a b
Overlaps-from_test a b holds =
    elim (either (is_cover a b) (is_cover b a) holds) as (λ _. Overlaps a b)
    [ inl first ↦ inl (Covers-from_test a b first) | inr second ↦ inr (Covers-from_test b a second) ]

pub test-from_Overlaps : (a b : List (List ℕ)) → Overlaps a b → is_overlap a b ≡ true
test-from_Overlaps a b (inl covered) = first_of_both (is_cover a b) (is_cover b a) (test-from_Covers a b covered)
test-from_Overlaps a b (inr covered) = second_of_both (is_cover a b) (is_cover b a) (test-from_Covers b a covered)

-- cover is a partial order
pub Covers-refl : (a : List (List ℕ)) → Covers a a
Covers-refl a = ([], sym (append-nil a))

pub Covers-trans : (a b c : List (List ℕ)) → Covers a b → Covers b c → Covers a c
Covers-trans a b c (first, is) (second, on) = (first ++ second, on ∙ ap (λ front. front ++ second) is ∙ append_assoc a first second)

nothing_more : (a rest back : List (List ℕ)) → a ≡ (a ++ rest) ++ back → rest ≡ []
nothing_more a [] back is = refl
nothing_more a (segment ∷ rest) back is = absurd (omega (arith, ap length is, length-append (a ++ segment ∷ rest) back, length-append a (segment ∷ rest)))

pub Covers-antisym : (a b : List (List ℕ)) → Covers a b → Covers b a → a ≡ b
Covers-antisym a b (rest, is) (back, on) =
    let none : rest ≡ [] = nothing_more a rest back (on ∙ ap (λ front. front ++ back) is) in
    sym (is ∙ ap (λ end. a ++ end) none ∙ append-nil a)

-- overlap is symmetric
pub Overlaps-sym : (a b : List (List ℕ)) → Overlaps a b → Overlaps b a
Overlaps-sym a b (inl covered) = inr covered
Overlaps-sym a b (inr covered) = inl covered

-- one segment more in front of both
grown : (segment first : List ℕ) (a b : List (List ℕ)) → segment ≡ first → Overlaps a b → Overlaps (segment ∷ a) (first ∷ b)
grown segment first a b same (inl (rest, is)) = inl (rest, λ i. sym same i ∷ is i)
grown segment first a b same (inr (rest, is)) = inr (rest, λ i. same i ∷ is i)

-- two prefixes of one list: one is a prefix of the other
one_of_two : (a b more other : List (List ℕ)) → a ++ more ≡ b ++ other → Overlaps a b
one_of_two [] b more other is = inl (b, refl)
one_of_two (segment ∷ a) [] more other is = inr (segment ∷ a, refl)
one_of_two (segment ∷ a) (first ∷ b) more other is =
    let same : segment ≡ first = cc in
    let rest : a ++ more ≡ b ++ other = cc in
    grown segment first a b same (one_of_two a b more other rest)

pub Covers-overlap : (a b c : List (List ℕ)) → Covers a c → Covers b c → Overlaps a b
Covers-overlap a b c (more, is) (other, on) = one_of_two a b more other (sym is ∙ on)

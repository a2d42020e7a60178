-- Members of which no two have one owner or overlap.
use Rattle.std.proofs.Common.{◌≡◌, List, [], ◌∷◌, ◌++◌, ◌≢◌, ◌<◌, ℕ, Bool, true, false, length, take, drop, get_or, refl, ap, sym, ◌∙◌, arith, append-nil, inl, subst, suc, true≢false, zero}
use Rattle.std.specs.Prelude.{All, IsTrue, ◌↔◌, not}
use Rattle.std.specs.Prelude.{◌+◌, ◌||◌}
use Rattle.std.specs.List.{AllWithin, insert, list_any}
use Rattle.std.specs.Ordering.{is_lt, ordering_reverse}
use Rattle.std.specs.declared.cmp.Ordering.{Ordering}
use Rattle.std.specs.declared.cmp.Ordering.TheVariants.{Equal, Greater, Less}
use Rattle.pol_locations.specs.Location.{Overlaps, is_cover, is_overlap}
use Rattle.pol_locations.proofs.NearLemmas.{equal-same, less-of, location_total}
use Rattle.pol_locations.proofs.Prefixes.{Overlaps-from_test, test-from_Overlaps}
use Rattle.std.proofs.lemmas.List.Elements.{All-cons, All-head, All-nil, All-tail}
use Rattle.std.proofs.lemmas.List.{get_or-drop, get_or-take, length-drop, length-take, take-append-drop}
use Rattle.pol_locations.specs.LocationSet.{AreApart, Gains, IsApart, LocationsAscend, is_before, location_cmp}
use Rattle.pol_locations.specs.declared.location_set.Member.{Member}

-- all but one of them
All-without : (P : Member → Type 0) (before after : List Member) (member : Member) → All P (before ++ member ∷ after) → All P (before ++ after)
All-without P [] after member all = All-tail P member after all
All-without P (first ∷ before) after member all =
    All-cons P first (before ++ after) (All-head P first (before ++ member ∷ after) all)
    (All-without P before after member (All-tail P first (before ++ member ∷ after) all))

pub AreApart-without : (before after : List Member) (member : Member) → AreApart (before ++ member ∷ after) → AreApart (before ++ after)
AreApart-without [] after member apart = apart.1
AreApart-without (first ∷ before) after member apart =
    (All-without (IsApart first) before after member apart.0, AreApart-without before after member apart.1)

-- one of them more
All-with : (P : Member → Type 0) (before after : List Member) (member : Member) → All P (before ++ after) → P member → All P (before ++ member ∷ after)
All-with P [] after member all one = All-cons P member after one all
All-with P (first ∷ before) after member all one =
    All-cons P first (before ++ member ∷ after) (All-head P first (before ++ after) all) (All-with P before after member (All-tail P first (before ++ after) all) one)

either-turned : (a b : Bool) → (a || b) ≡ (b || a)
either-turned true true = refl
either-turned true false = refl
either-turned false true = refl
either-turned false false = refl

AreApart-with : (before after : List Member) (member : Member) → AreApart (before ++ after) → All (λ other. other.owner ≢ member.owner) (before ++ after) →
    All (λ other. is_overlap other.location member.location ≡ false) (before ++ after) → AreApart (before ++ member ∷ after)
AreApart-with [] after member apart new free = (
  (λ k d inside. record { owners = λ same. new k d inside (sym same); locations = either-turned (is_cover member.location (get_or after k d).location) (is_cover (get_or after k d).location member.location) ∙ free k d inside }),
  apart,
)
AreApart-with (first ∷ before) after member apart new free = (
  All-with (IsApart first) before after member apart.0
      (record { owners = All-head (λ other. other.owner ≢ member.owner) first (before ++ after) new; locations = All-head (λ other. is_overlap other.location member.location ≡ false) first (before ++ after) free }),
  AreApart-with before after member apart.1 (All-tail (λ other. other.owner ≢ member.owner) first (before ++ after) new) (All-tail (λ other. is_overlap other.location member.location ≡ false) first (before ++ after) free),
)

-- the same of members whose locations ascend
Ascend-without : (before after : List Member) (member : Member) → LocationsAscend (before ++ member ∷ after) → LocationsAscend (before ++ after)
Ascend-without [] after member ascend = ascend.1
Ascend-without (first ∷ before) after member ascend = (
  All-without (λ later. location_cmp first.location later.location ≡ Less) before after member ascend.0,
  Ascend-without before after member ascend.1,
)

Ascend-with : (before after : List Member) (member : Member) → LocationsAscend (before ++ after) → All (λ other. location_cmp other.location member.location ≡ Less) before →
    All (λ other. location_cmp member.location other.location ≡ Less) after → LocationsAscend (before ++ member ∷ after)
Ascend-with [] after member ascend below above = (above, ascend)
Ascend-with (first ∷ before) after member ascend below above = (
  All-with (λ later. location_cmp first.location later.location ≡ Less) before after member ascend.0 (All-head (λ other. location_cmp other.location member.location ≡ Less) first before below),
  Ascend-with before after member ascend.1 (All-tail (λ other. location_cmp other.location member.location ≡ Less) first before below) above,
)

-- a member that isn't before a location which it doesn't overlap is behind it
behind-free : (member : Member) (location : List (List ℕ)) → is_before location member ≡ false → is_overlap member.location location ≡ false → location_cmp location member.location ≡ Less
behind-free member location behind free = by (location_cmp member.location location) refl
  where
    by : (o : Ordering) → location_cmp member.location location ≡ o → location_cmp location member.location ≡ Less
    by Less is = absurd (true≢false (sym (ap is_lt is) ∙ behind))
    by Equal is =
        let same : member.location ≡ location = equal-same member.location location is in
        absurd (true≢false (sym (test-from_Overlaps member.location location (inl ([], sym (append-nil member.location ∙ same)))) ∙ free))
    by Greater is = location_total.antisymm location member.location ∙ ap ordering_reverse is

-- a member that is put at its place
module _ (members : List Member) (place : ℕ) (member : Member) (apart : AreApart members) (ascend : LocationsAscend members)
    (new : All (λ other. other.owner ≢ member.owner) members) (free : All (λ other. is_overlap other.location member.location ≡ false) members) where
  pub AreApart-insert : AreApart (insert members place member)
  AreApart-insert =
      let whole : members ≡ take place members ++ drop place members = sym (take-append-drop place members) in
      AreApart-with (take place members) (drop place members) member (subst AreApart whole apart) (subst (All (λ other. other.owner ≢ member.owner)) whole new) (subst (All (λ other. is_overlap other.location member.location ≡ false)) whole free)

  pub Ascend-insert :
      AllWithin (λ other. is_before member.location other ≡ true) members 0 place
      → AllWithin (λ other. is_before member.location other ≡ false) members place (length members)
      → LocationsAscend (insert members place member)
  Ascend-insert before behind =
      let whole : members ≡ take place members ++ drop place members = sym (take-append-drop place members) in
      Ascend-with (take place members) (drop place members) member (subst LocationsAscend whole ascend)
      (λ k d inside.
      (let short : k < place = omega (arith, inside, length-take place members) in
      ap (λ (other : Member). location_cmp other.location member.location) (get_or-take place members k d short)
      ∙ less-of (location_cmp (get_or members k d).location member.location) (before k d (omega arith) short)))
      (λ k d inside.
      (let within : place + k < length members = omega (arith, inside, length-drop place members) in
      ap (λ (other : Member). location_cmp member.location other.location) (get_or-drop place members k d)
      ∙ behind-free (get_or members (place + k) d) member.location (behind (place + k) d (omega arith) within) (free (place + k) d within)))

  pub Gains-insert : Gains members (insert members place member) member
  Gains-insert =
      record { before = take place members; after = drop place members; was = sym (take-append-drop place members); is = refl }

-- a list is cut at one of its places
cut : (members : List Member) (place : ℕ) (other : Member) → place < length members → members ≡ take place members ++ get_or members place other ∷ drop (suc place) members
cut [] place other inside = absurd (omega arith)
cut (member ∷ members) zero other inside = refl
cut (member ∷ members) (suc place) other inside = ap (λ rest. member ∷ rest) (cut members place other (omega arith))

pub AreApart-remove : (members : List Member) (place : ℕ) (other : Member) → place < length members → AreApart members → AreApart (take place members ++ drop (suc place) members)
AreApart-remove members place other inside apart =
    AreApart-without (take place members) (drop (suc place) members) (get_or members place other) (subst AreApart (cut members place other inside) apart)

pub Ascend-remove : (members : List Member) (place : ℕ) (other : Member) → place < length members → LocationsAscend members → LocationsAscend (take place members ++ drop (suc place) members)
Ascend-remove members place other inside ascend =
    Ascend-without (take place members) (drop (suc place) members) (get_or members place other) (subst LocationsAscend (cut members place other inside) ascend)

pub Gains-remove : (members : List Member) (place : ℕ) (other : Member) → place < length members → Gains (take place members ++ drop (suc place) members) members (get_or members place other)
Gains-remove members place other inside =
    record { before = take place members; after = drop (suc place) members; was = refl; is = cut members place other inside }

free_by_first : (member : Member) (members : List Member) (wanted : List (List ℕ)) (answer first : Bool) → is_overlap member.location wanted ≡ first →
    answer ≡ not (first || list_any (λ other. is_overlap other.location wanted) members) →
    (IsTrue (not (list_any (λ other. is_overlap other.location wanted) members)) ↔ All (λ other. ¬ (Overlaps other.location wanted)) members) →
    IsTrue answer ↔ All (λ other. ¬ (Overlaps other.location wanted)) (member ∷ members)
free_by_first member members wanted answer true is tested others = (
  (λ holds. cc),
  (λ free. absurd (All-head (λ other. ¬ (Overlaps other.location wanted)) member members free (Overlaps-from_test member.location wanted is))),
)
free_by_first member members wanted answer false is tested others = (
  (λ holds. All-cons (λ other. ¬ (Overlaps other.location wanted)) member members
      (λ overlapping. let found = test-from_Overlaps member.location wanted overlapping in cc) (others.0 (sym tested ∙ holds))),
  (λ free. tested ∙ others.1 (All-tail (λ other. ¬ (Overlaps other.location wanted)) member members free)),
)

-- no member overlaps where the test finds none
pub free_tested : (members : List Member) (wanted : List (List ℕ)) (answer : Bool) → answer ≡ not (list_any (λ member. is_overlap member.location wanted) members) →
    IsTrue answer ↔ All (λ member. ¬ (Overlaps member.location wanted)) members
free_tested [] wanted answer tested = ((λ holds. All-nil (λ member. ¬ (Overlaps member.location wanted))), (λ free. tested))
free_tested (member ∷ members) wanted answer tested = free_by_first member members wanted answer (is_overlap member.location wanted) refl tested (free_tested members wanted (not (list_any (λ other. is_overlap other.location wanted) members)) refl)

-- Members by rising locations: those that may overlap a wanted one stand side by side.
use Rattle.std.proofs.Common.{◌≡◌, ◌⊎◌, ◌≤◌, ◌<◌, ℕ, ◌+◌, ◌-◌, Bool, true, false, not, cond, ◌&&◌, ◌||◌, nat_eq, filter, map, min, List, [], ◌∷◌, ◌++◌, length, take, drop, get_or, suc, zero, refl, ap, sym, ◌∙◌, inl, inr, arith, append-nil, true≢false}
use Rattle.std.specs.Prelude.{All}
use Rattle.std.specs.Cmp.{IsTotalOrder}
use Rattle.std.specs.Cmp.Lexicographic.{lists_total, nat_list_cmp_total, slice_cmp}
use Rattle.std.specs.List.{AllWithin, list_any, reduce}
use Rattle.std.specs.List.Sorted.{IsPartitionedBy}
use Rattle.std.specs.Ordering.{is_gt, is_lt, nat_cmp, ordering_reverse, ordering_then}
use Rattle.std.specs.declared.cmp.Ordering.{Ordering}
use Rattle.std.specs.declared.cmp.Ordering.TheVariants.{Equal, Greater, Less}
use Rattle.std.proofs.lemmas.Bool.{false_from_ne_true}
use Rattle.std.proofs.lemmas.Cmp.{tied_itself}
use Rattle.std.proofs.lemmas.List.{drop-drop, get_or-drop, get_or-take, length-drop, length-take, take-append-drop}
use Rattle.std.proofs.lemmas.List.Elements.{All-head, All-tail, filter-append}
use Rattle.std.proofs.lemmas.List.Folds.{list_any-append}
use Rattle.std.proofs.lemmas.Map.Lookups.{exact_bytes}
use Rattle.pol_locations.specs.Location.{Covers, Overlaps, is_cover, is_overlap}
use Rattle.pol_locations.specs.LocationSet.{AreApart, IsApart, IsNear, LocationsAscend, clash_of, is_before, is_clash, location_cmp}
use Rattle.pol_locations.specs.declared.location_set.Member.{Member}
use Rattle.pol_locations.proofs.Prefixes.{Covers-from_test, Overlaps-from_test, test-from_Covers, test-from_Overlaps}

pub location_total : IsTotalOrder location_cmp
location_total = lists_total nat_list_cmp_total

-- an ordering that is turned, and one by its tests
turned : (o : Ordering) → is_lt (ordering_reverse o) ≡ is_gt o
turned Less = refl
turned Equal = refl
turned Greater = refl

pub less-of : (o : Ordering) → is_lt o ≡ true → o ≡ Less
less-of Less holds = refl
less-of Equal holds = absurd (true≢false (sym holds))
less-of Greater holds = absurd (true≢false (sym holds))

not-greater : (o : Ordering) → o ≡ Less → is_gt o ≡ false
not-greater o less = ap is_gt less

equal-of : (o : Ordering) → is_lt o ≡ false → is_gt o ≡ false → o ≡ Equal
equal-of Less no_less no_greater = absurd (true≢false no_less)
equal-of Equal no_less no_greater = refl
equal-of Greater no_less no_greater = absurd (true≢false no_greater)

-- one is less than another where the other is greater
lesser : (a b : List (List ℕ)) → is_lt (location_cmp a b) ≡ is_gt (location_cmp b a)
lesser a b = ap is_lt (location_total.antisymm a b) ∙ turned (location_cmp b a)

-- lists that compare as equal are equal
pub equal-same : (a b : List (List ℕ)) → location_cmp a b ≡ Equal → a ≡ b
equal-same [] [] equal = refl
equal-same [] (y ∷ b) equal = absurd (true≢false (ap is_lt equal))
equal-same (x ∷ a) [] equal = absurd (true≢false (ap is_gt equal))
equal-same (x ∷ a) (y ∷ b) equal = by (slice_cmp nat_cmp x y) refl equal (equal-same a b)
  where
    by : (o : Ordering) → slice_cmp nat_cmp x y ≡ o → ordering_then o (location_cmp a b) ≡ Equal → (location_cmp a b ≡ Equal → a ≡ b) → x ∷ a ≡ y ∷ b
    by Less is rest others = absurd (true≢false (ap is_lt rest))
    by Equal is rest others = let same : x ≡ y = exact_bytes x y is in let last : a ≡ b = others rest in λ i. same i ∷ last i
    by Greater is rest others = absurd (true≢false (ap is_gt rest))

-- a prefix is not greater
prefix-first : (a rest : List (List ℕ)) → is_gt (location_cmp a (a ++ rest)) ≡ false
prefix-first [] [] = refl
prefix-first [] (x ∷ rest) = refl
prefix-first (x ∷ a) rest = ap (λ o. is_gt (ordering_then o (location_cmp a (a ++ rest)))) (tied_itself nat_list_cmp_total x) ∙ prefix-first a rest

cover-first : (a b : List (List ℕ)) → Covers a b → is_gt (location_cmp a b) ≡ false
cover-first a b (rest, is) = ap (λ other. is_gt (location_cmp a other)) is ∙ prefix-first a rest

-- what stands between a location and one that it covers is covered too
between : (a b rest : List (List ℕ)) → is_gt (location_cmp a b) ≡ false → is_gt (location_cmp b (a ++ rest)) ≡ false → Covers a b
between [] b rest from upto = (b, refl)
between (x ∷ a) [] rest from upto = absurd (true≢false from)
between (x ∷ a) (y ∷ b) rest from upto =
    by (slice_cmp nat_cmp x y) refl from (ap (λ o. is_gt (ordering_then o (location_cmp b (a ++ rest)))) (sym (nat_list_cmp_total.antisymm y x)) ∙ upto) (between a b rest)
  where
    by : (o : Ordering) → slice_cmp nat_cmp x y ≡ o → is_gt (ordering_then o (location_cmp a b)) ≡ false → is_gt (ordering_then (ordering_reverse (slice_cmp nat_cmp x y)) (location_cmp b (a ++ rest))) ≡ false
        → (is_gt (location_cmp a b) ≡ false → is_gt (location_cmp b (a ++ rest)) ≡ false → Covers a b) → Covers (x ∷ a) (y ∷ b)
    by Less is first last others = absurd (true≢false (sym (ap (λ o. is_gt (ordering_then (ordering_reverse o) (location_cmp b (a ++ rest)))) is) ∙ last))
    by Equal is first last others =
        let same : x ≡ y = exact_bytes x y is in
        let covered = others first (sym (ap (λ o. is_gt (ordering_then (ordering_reverse o) (location_cmp b (a ++ rest)))) is) ∙ last) in
        (covered.0, λ i. sym same i ∷ covered.1 i)
    by Greater is first last others = absurd (true≢false first)

covers-between : (a b c : List (List ℕ)) → Covers a c → is_gt (location_cmp a b) ≡ false → is_gt (location_cmp b c) ≡ false → Covers a b
covers-between a b c (rest, is) from upto = between a b rest from (sym (ap (λ other. is_gt (location_cmp b other)) is) ∙ upto)

-- members by their places
pub ascend-at : (members : List Member) → LocationsAscend members → (i j : ℕ) (d : Member) → i < j → j < length members → location_cmp (get_or members i d).location (get_or members j d).location ≡ Less
ascend-at [] ascend i j d less inside = absurd (omega (arith, inside))
ascend-at (member ∷ members) ascend i zero d less inside = absurd (omega (arith, less))
ascend-at (member ∷ members) ascend zero (suc j) d less inside = ascend.0 j d (omega (arith, inside))
ascend-at (member ∷ members) ascend (suc i) (suc j) d less inside = ascend-at members ascend.1 i j d (omega (arith, less)) (omega (arith, inside))

pub apart-at : (members : List Member) → AreApart members → (i j : ℕ) (d : Member) → i < j → j < length members → IsApart (get_or members i d) (get_or members j d)
apart-at [] apart i j d less inside = absurd (omega (arith, inside))
apart-at (member ∷ members) apart i zero d less inside = absurd (omega (arith, less))
apart-at (member ∷ members) apart zero (suc j) d less inside = apart.0 j d (omega (arith, inside))
apart-at (member ∷ members) apart (suc i) (suc j) d less inside = apart-at members apart.1 i j d (omega (arith, less)) (omega (arith, inside))

same_or_less : (i j : ℕ) → i ≤ j → (i ≡ j) ⊎ (i < j)
same_or_less zero zero upto = inl refl
same_or_less zero (suc j) upto = inr (omega arith)
same_or_less (suc i) zero upto = absurd (omega (arith, upto))
same_or_less (suc i) (suc j) upto = elim (same_or_less i j (omega (arith, upto))) as (λ _. (suc i ≡ suc j) ⊎ (suc i < suc j)) [ inl same ↦ inl (ap suc same) | inr less ↦ inr (omega (arith, less)) ]

-- no member before a location comes after one that isn't
pub before-parts : (members : List Member) (location : List (List ℕ)) → LocationsAscend members → IsPartitionedBy (is_before location) members
before-parts members location ascend i j d upto inside holds =
    elim (same_or_less i j upto) as (λ _. is_before location (get_or members i d) ≡ true) [
      | inl same ↦ ap (λ k. is_before location (get_or members k d)) same ∙ holds
      | inr less ↦ ap is_lt (location_total.trans (get_or members i d).location (get_or members j d).location location (ascend-at members ascend i j d less inside) (less-of (location_cmp (get_or members j d).location location) holds))
    ]

-- of those from a location on, those that it covers come first
pub covered-parts : (members : List Member) (place : ℕ) (wanted : List (List ℕ)) → LocationsAscend members → AllWithin (λ member. is_before wanted member ≡ false) members place (length members) →
    IsPartitionedBy (λ member. is_cover wanted member.location) (drop place members)
covered-parts members place wanted ascend behind i j d upto inside holds =
    elim (same_or_less i j upto) as (λ _. is_cover wanted (get_or (drop place members) i d).location ≡ true) [
      | inl same ↦ ap (λ k. is_cover wanted (get_or (drop place members) k d).location) same ∙ holds
      | inr less ↦
          let within : place + j < length members = omega (arith, inside, length-drop place members) in
          let one = get_or members (place + i) d in
          let other = get_or members (place + j) d in
          let covered : Covers wanted other.location = Covers-from_test wanted other.location (sym (ap (λ (member : Member). is_cover wanted member.location) (get_or-drop place members j d)) ∙ holds) in
          let from : is_gt (location_cmp wanted one.location) ≡ false = sym (lesser one.location wanted) ∙ behind (place + i) d (omega arith) (omega (arith, within, less)) in
          let last = not-greater (location_cmp one.location other.location) (ascend-at members ascend (place + i) (place + j) d (omega (arith, less)) within) in
          ap (λ (member : Member). is_cover wanted member.location) (get_or-drop place members i d) ∙ test-from_Covers wanted one.location (covers-between wanted one.location other.location covered from last)
    ]

-- a member with another one between it and a wanted location doesn't overlap that
apart-before : (one next : Member) (wanted : List (List ℕ)) → IsApart one next → location_cmp one.location next.location ≡ Less → is_before wanted next ≡ true → is_overlap one.location wanted ≡ false
apart-before one next wanted apart rises before = false_from_ne_true (is_overlap one.location wanted) (λ holds. contrary (Overlaps-from_test one.location wanted holds))
  where
    below : location_cmp next.location wanted ≡ Less
    below = less-of (location_cmp next.location wanted) before

    contrary : Overlaps one.location wanted → ⊥
    contrary (inl covers) =
        let covered = covers-between one.location next.location wanted covers (not-greater (location_cmp one.location next.location) rises) (not-greater (location_cmp next.location wanted) below) in
        true≢false (sym (test-from_Overlaps one.location next.location (inl covered)) ∙ apart.locations)
    contrary (inr covered) =
        true≢false (sym (ap is_lt (location_total.trans one.location next.location wanted rises below)) ∙ lesser one.location wanted ∙ cover-first wanted one.location covered)

-- a member that is no less than a wanted location, and isn't covered by it, doesn't overlap it
apart-after : (one : Member) (wanted : List (List ℕ)) → is_before wanted one ≡ false → is_cover wanted one.location ≡ false → is_overlap one.location wanted ≡ false
apart-after one wanted behind uncovered = false_from_ne_true (is_overlap one.location wanted) (λ holds. contrary (Overlaps-from_test one.location wanted holds))
  where
    uncovering : Covers wanted one.location → ⊥
    uncovering covered = true≢false (sym (test-from_Covers wanted one.location covered) ∙ uncovered)

    contrary : Overlaps one.location wanted → ⊥
    contrary (inl covers) =
        let same : one.location ≡ wanted = equal-same one.location wanted (equal-of (location_cmp one.location wanted) behind (cover-first one.location wanted covers)) in
        uncovering ([], same ∙ sym (append-nil wanted))
    contrary (inr covered) = uncovering covered

-- the members side by side from the one before the place on, to the last that is covered
module _ (members : List Member) (wanted : List (List ℕ)) (apart : AreApart members) (ascend : LocationsAscend members) (place covered start : ℕ) where
  pub near-of :
      place ≤ length members
      → AllWithin (λ member. is_before wanted member ≡ true) members 0 place
      → AllWithin (λ member. is_before wanted member ≡ false) members place (length members)
      → AllWithin (λ member. is_cover wanted member.location ≡ false) (drop place members) covered (length (drop place members))
      → start ≡ place - 1
      → IsNear wanted members (take (place + covered - start) (drop start members))
  near-of bound before behind uncovered start_is =
      let many = place + covered - start in
      let end : start + many ≡ place + covered = omega (arith, start_is) in
      record {
        before = take start members;
        after = drop many (drop start members);
        is = sym (ap (λ rest. take start members ++ rest) (take-append-drop many (drop start members)) ∙ take-append-drop start members);
        apart_before = λ k d inside.
            (let short : k < start = omega (arith, inside, length-take start members) in
            ap (λ (member : Member). is_overlap member.location wanted) (get_or-take start members k d short)
            ∙ apart-before (get_or members k d) (get_or members (place - 1) d) wanted
            (apart-at members apart k (place - 1) d (omega (arith, short, start_is)) (omega (arith, short, start_is, bound)))
            (ascend-at members ascend k (place - 1) d (omega (arith, short, start_is)) (omega (arith, short, start_is, bound)))
            (before (place - 1) d (omega arith) (omega (arith, short, start_is))));
        apart_after = λ k d inside.
            (let rest : drop many (drop start members) ≡ drop (place + covered) members = drop-drop many start members ∙ ap (λ n. drop n members) end in
            let within : place + (covered + k) < length members = omega (arith, inside, ap length rest, length-drop (place + covered) members) in
            let is : get_or (drop many (drop start members)) k d ≡ get_or members (place + (covered + k)) d =
            ap (λ some. get_or some k d) rest ∙ get_or-drop (place + covered) members k d ∙ ap (λ n. get_or members n d) (omega arith) in
            ap (λ (member : Member). is_overlap member.location wanted) is
            ∙ apart-after (get_or members (place + (covered + k)) d) wanted
            (behind (place + (covered + k)) d (omega arith) within)
            (sym (ap (λ (member : Member). is_cover wanted member.location) (get_or-drop place members (covered + k) d)) ∙ uncovered (covered + k) d (omega arith) (omega (arith, within, length-drop place members))));
      }

-- what is found among all members is found among those near the wanted location
none-clash : (members : List Member) (wanted : List (List ℕ)) (except : List ℕ) → All (λ member. is_overlap member.location wanted ≡ false) members → filter (is_clash wanted except) members ≡ []
none-clash [] wanted except apart = refl
none-clash (member ∷ members) wanted except apart =
    ap (λ b. cond (b && not (list_any (λ owner. nat_eq owner member.owner) except)) (member ∷ filter (is_clash wanted except) members) (filter (is_clash wanted except) members)) (All-head (λ other. is_overlap other.location wanted ≡ false) member members apart)
    ∙ none-clash members wanted except (All-tail (λ other. is_overlap other.location wanted ≡ false) member members apart)

none-overlaps : (members : List Member) (wanted : List (List ℕ)) → All (λ member. is_overlap member.location wanted ≡ false) members → list_any (λ member. is_overlap member.location wanted) members ≡ false
none-overlaps [] wanted apart = refl
none-overlaps (member ∷ members) wanted apart =
    ap (λ b. b || list_any (λ other. is_overlap other.location wanted) members) (All-head (λ other. is_overlap other.location wanted ≡ false) member members apart)
    ∙ none-overlaps members wanted (All-tail (λ other. is_overlap other.location wanted ≡ false) member members apart)

or-none : (b : Bool) → (b || false) ≡ b
or-none true = refl
or-none false = refl

module _ (wanted : List (List ℕ)) (members near : List Member) (found : IsNear wanted members near) where
  pub near-clash : (except : List ℕ) → clash_of near wanted except ≡ clash_of members wanted except
  near-clash except =
      let chosen = filter (is_clash wanted except) in
      let all : chosen members ≡ chosen near =
      ap chosen found.is
      ∙ filter-append (is_clash wanted except) found.before (near ++ found.after)
      ∙ (λ i. none-clash found.before wanted except found.apart_before i ++ filter-append (is_clash wanted except) near found.after i)
      ∙ ap (λ rest. chosen near ++ rest) (none-clash found.after wanted except found.apart_after)
      ∙ append-nil (chosen near) in
      sym (ap (λ some. reduce min (map (λ (member : Member). member.owner) some)) all)

  pub near-overlaps : list_any (λ member. is_overlap member.location wanted) near ≡ list_any (λ member. is_overlap member.location wanted) members
  near-overlaps =
      let test : Member → Bool = λ member. is_overlap member.location wanted in
      sym (
      ap (list_any test) found.is
      ∙ list_any-append test found.before (near ++ found.after)
      ∙ (λ i. none-overlaps found.before wanted found.apart_before i || list_any-append test near found.after i)
      ∙ ap (λ b. list_any test near || b) (none-overlaps found.after wanted found.apart_after)
      ∙ or-none (list_any test near)
      )

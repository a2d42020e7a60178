-- Members that are known by ids: what adding, naming and removing some keeps.
use Rattle.std.proofs.Common.{◌≡◌, ◌≤◌, ◌==◌, ◌||◌, ◌∙◌, ℕ, Bool, true, false, not, List, [], ◌∷◌, ◌++◌, max, map, filter, cond, Option, None, Some, Result, Ok, Err, IfSome, refl, sym, ap, subst, arith, nat_eq, if◌then◌else◌}
use Rattle.std.specs.List.{All, Contains, IsDistinct, find, list_any}
use Rattle.std.specs.Option.{option_map}
use Rattle.std.proofs.lemmas.Bool.{cond_both, eqb-true, eq-eqb, ltb-false, ne_eqb}
use Rattle.std.proofs.lemmas.Cmp.{nat_eq_equiv}
use Rattle.std.proofs.lemmas.List.{map-append}
use Rattle.std.proofs.lemmas.List.Elements.{All-cons, All-filter, All-from_recursion, All-head, All-nil, All-push, All-tail, All-weaker, Contains-append_left, Contains-append_right, Contains-get_or, Contains-push, recursion_from_All}
use Rattle.std.proofs.lemmas.List.Folds.{list_any_at, list_any_none}
use Rattle.std.proofs.lemmas.Map.Keys.{IsDistinct-push}
use Rattle.pol_meta.specs.Creation.{highest}
use Rattle.pol_meta.specs.Valid.{IsId}
use Rattle.pol_meta.specs.declared.why.Why.{Why}
use Rattle.pol_meta.specs.declared.why.Why.TheVariants.{IdsUsedUp, NoSuchId}
use Rattle.pol_drafts.specs.Ids.{chosen, given, has_id, is_above, next_id, still_last}
use Rattle.pol_drafts.specs.declared.member.MemberId.{MemberId}
use Rattle.pol_drafts.specs.declared.member.MemberId.TheVariants.{LastAdded, Id}
use Rattle.pol_updatelaws.proofs.ChainLemmas.{passes_rule}

-- members of one form under ids that differ; the one in use and the last added are among them
pub record MembersAre {A : Type 0} (Form : A → Type 0) (id_of : A → ℕ) (members : List A) (now : ℕ) (last : Option ℕ) : Type 0 where
  pub forms : All Form members
  pub differ : IsDistinct nat_eq (map id_of members)
  pub current : Contains (map id_of members) now
  pub added : IfSome last (Contains (map id_of members))

-- the highest of ids is no less than the least and than each of them, and no more than what bounds them all
pub least_highest : (least : ℕ) (ids : List ℕ) → least ≤ highest least ids
least_highest least [] = omega arith
least_highest least (id ∷ ids) = omega (arith, least_highest (max least id) ids)

pub highest_within : (most least : ℕ) (ids : List ℕ) → least ≤ most → All (λ id. id ≤ most) ids → highest least ids ≤ most
highest_within most least [] low within = low
highest_within most least (id ∷ ids) low within =
    let here : id ≤ most = All-head (λ id. id ≤ most) id ids within in
    highest_within most (max least id) ids (omega arith) (All-tail (λ id. id ≤ most) id ids within)

highest_bounds : (least : ℕ) (ids : List ℕ) → All (λ id. id ≤ highest least ids) ids
highest_bounds least [] = All-nil (λ id. id ≤ highest least [])
highest_bounds least (id ∷ ids) =
    All-cons (λ other. other ≤ highest least (id ∷ ids)) id ids
    (omega (arith, least_highest (max least id) ids)) (highest_bounds (max least id) ids)

-- the id after them is that of none
pub next_is_new : (ids : List ℕ) → list_any (nat_eq (next_id ids)) ids ≡ false
next_is_new ids =
    list_any_none (nat_eq (next_id ids)) ids
    (All-weaker (λ id. id ≤ highest 0 ids) (λ id. nat_eq (next_id ids) id ≡ false)
    (λ id low. ne_eqb (next_id ids) id (λ same. absurd (omega (arith, same, low)))) ids (highest_bounds 0 ids))

-- an id that is given out may be one
pub given_is : (id made : ℕ) → given id ≡ Ok made → (id ≡ made) × IsId made
unfolding given
given_is id made told =
    let passed = passes_rule (is_above id) IdsUsedUp (Ok id) made told in
    let step : ◌≡◌ {A = Result ℕ Why} (Ok id) (Ok made) = passed.1 in
    let same : id ≡ made = cc in
    (same, subst IsId same (ltb-false 2147483647 id passed.0))

-- an id that is among some
pub is_among : (id : ℕ) (ids : List ℕ) → has_id id ids ≡ true → Contains ids id
is_among id [] has = absurd (cc)
is_among id (other ∷ ids) has = among (other == id) refl (λ found. is_among id ids found) has
  where
    among : (here : Bool) → (other == id) ≡ here → (has_id id ids ≡ true → Contains ids id)
        → (here || has_id id ids) ≡ true → Contains (other ∷ ids) id
    among true is later found =
        subst (Contains (other ∷ ids)) (eqb-true other id is) (Contains-get_or (other ∷ ids) 0 0 (omega arith))
    among false is later found = Contains-append_right (other ∷ []) ids id (later found)

-- what a filter of ids leaves
pub distinct_filter : (keep : ℕ → Bool) (ids : List ℕ) → IsDistinct nat_eq ids → IsDistinct nat_eq (filter keep ids)
unfolding IsDistinct
distinct_filter keep [] apart = apart
distinct_filter keep (id ∷ ids) apart =
    let rest = distinct_filter keep ids apart.1 in
    let others = All-filter keep (λ other. nat_eq id other ≡ false) ids
    (All-from_recursion (λ other. nat_eq id other ≡ false) ids apart.0) in
    cond_both (keep id) (id ∷ filter keep ids) (filter keep ids) (IsDistinct nat_eq)
    (λ _. (recursion_from_All (λ other. nat_eq id other ≡ false) (filter keep ids) others, rest)) (λ _. rest)

pub contains_filter : (keep : ℕ → Bool) (ids : List ℕ) (id : ℕ) → has_id id ids ≡ true → keep id ≡ true
    → has_id id (filter keep ids) ≡ true
contains_filter keep [] id has kept = has
contains_filter keep (other ∷ ids) id has kept =
    left (other == id) refl (keep other) refl (λ found. contains_filter keep ids id found kept) has
  where
    left : (here : Bool) → (other == id) ≡ here → (keeps : Bool) → keep other ≡ keeps
        → (has_id id ids ≡ true → has_id id (filter keep ids) ≡ true) → (here || has_id id ids) ≡ true
        → has_id id (cond keeps (other ∷ filter keep ids) (filter keep ids)) ≡ true
    left true is true keeps later found = rw is
    left true is false keeps later found =
        let same : other ≡ id = eqb-true other id is in
        let clash : keep id ≡ false = subst (λ x. keep x ≡ false) same keeps in
        absurd (cc)
    left false is true keeps later found = rw (is, later found)
    left false is false keeps later found = later found

has_contained : (id : ℕ) (ids : List ℕ) → Contains ids id → has_id id ids ≡ true
has_contained id ids there =
    list_any_at (λ other. other == id) ids there.0 id there.1 (eq-eqb _ id there.2)

pub kept_contains : (keep : ℕ → Bool) (ids : List ℕ) (id : ℕ) → Contains ids id → keep id ≡ true
    → Contains (filter keep ids) id
kept_contains keep ids id there kept =
    is_among id (filter keep ids) (contains_filter keep ids id (has_contained id ids there) kept)

-- the ids of the members that a filter by ids keeps
map_cond : {A : Type 0} (id_of : A → ℕ) (b : Bool) (x : A) (xs : List A)
    → map id_of (cond b (x ∷ xs) xs) ≡ cond b (id_of x ∷ map id_of xs) (map id_of xs)
map_cond id_of true x xs = refl
map_cond id_of false x xs = refl

pub kept_ids : {A : Type 0} (id_of : A → ℕ) (keep : ℕ → Bool) (xs : List A)
    → map id_of (filter (λ x. keep (id_of x)) xs) ≡ filter keep (map id_of xs)
kept_ids id_of keep [] = refl
kept_ids id_of keep (x ∷ xs) =
    map_cond id_of (keep (id_of x)) x (filter (λ y. keep (id_of y)) xs)
    ∙ ap (λ ids. cond (keep (id_of x)) (id_of x ∷ ids) ids) (kept_ids id_of keep xs)

pub distinct_left : {A : Type 0} (id_of : A → ℕ) (keep : ℕ → Bool) (xs : List A) → IsDistinct nat_eq (map id_of xs)
    → IsDistinct nat_eq (map id_of (filter (λ x. keep (id_of x)) xs))
distinct_left id_of keep xs differ =
    subst (IsDistinct nat_eq) (sym (kept_ids id_of keep xs)) (distinct_filter keep (map id_of xs) differ)

pub contains_left : {A : Type 0} (id_of : A → ℕ) (keep : ℕ → Bool) (xs : List A) (id : ℕ) → Contains (map id_of xs) id
    → keep id ≡ true → Contains (map id_of (filter (λ x. keep (id_of x)) xs)) id
contains_left id_of keep xs id there kept =
    subst (λ ids. Contains ids id) (sym (kept_ids id_of keep xs)) (kept_contains keep (map id_of xs) id there kept)

-- one more member, whose id is that of no other
pub distinct_pushed : {A : Type 0} (id_of : A → ℕ) (xs : List A) (x : A) → IsDistinct nat_eq (map id_of xs)
    → list_any (nat_eq (id_of x)) (map id_of xs) ≡ false → IsDistinct nat_eq (map id_of (xs ++ x ∷ []))
distinct_pushed id_of xs x differ new =
    subst (IsDistinct nat_eq) (sym (map-append id_of xs (x ∷ [])))
    (IsDistinct-push nat_eq_equiv (map id_of xs) (id_of x) differ new)

pub contains_pushed : {A : Type 0} (id_of : A → ℕ) (xs : List A) (x : A) (id : ℕ) → Contains (map id_of xs) id
    → Contains (map id_of (xs ++ x ∷ [])) id
contains_pushed id_of xs x id there =
    subst (λ ids. Contains ids id) (sym (map-append id_of xs (x ∷ [])))
    (Contains-append_left (map id_of xs) (id_of x ∷ []) id there)

-- a member that a look-up finds is there
pub found_id : {A : Type 0} (id_of : A → ℕ) (test : A → Bool) (xs : List A) (id : ℕ)
    → option_map id_of (find test xs) ≡ Some id → Contains (map id_of xs) id
found_id id_of test [] id found = absurd (cc)
found_id id_of test (x ∷ xs) id found = first (test x) (λ told. found_id id_of test xs id told) found
  where
    first : (passes : Bool) → (option_map id_of (find test xs) ≡ Some id → Contains (map id_of xs) id)
        → option_map id_of (cond passes (Some x) (find test xs)) ≡ Some id
        → Contains (map id_of (x ∷ xs)) id
    first true later told =
        let same : id_of x ≡ id = cc in
        subst (Contains (map id_of (x ∷ xs))) same (Contains-get_or (map id_of (x ∷ xs)) 0 0 (omega arith))
    first false later told =
        Contains-append_right (id_of x ∷ []) (map id_of xs) id (later told)

-- what holds of the part of each item holds of that of the one that is found
pub found_part : {A : Type 0} (part : A → ℕ) (test : A → Bool) (P : ℕ → Type 0) (xs : List A)
    → All (λ x. P (part x)) xs → IfSome (option_map part (find test xs)) P
found_part part test P [] each = tt
found_part part test P (x ∷ xs) each =
    first (test x) (found_part part test P xs (All-tail (λ y. P (part y)) x xs each))
  where
    first : (passes : Bool) → IfSome (option_map part (find test xs)) P
        → IfSome (option_map part (cond passes (Some x) (find test xs))) P
    first true later = All-head (λ y. P (part y)) x xs each
    first false later = later

-- the member that is named is there
pub named_there : (member : MemberId) (last : Option ℕ) (ids : List ℕ) (id : ℕ) → IfSome last (Contains ids)
    → chosen member last ids ≡ Ok id → Contains ids id
unfolding chosen
named_there LastAdded None ids id added told = absurd (cc)
named_there LastAdded (Some other) ids id added told =
    let same : other ≡ id = cc in
    subst (Contains ids) same added
named_there (Id other) last ids id added told = pick (has_id other ids) refl told
  where
    pick : (has : Bool) → has_id other ids ≡ has → (if has then Ok other else Err NoSuchId) ≡ Ok id → Contains ids id
    pick true is picked =
        let same : other ≡ id = cc in
        subst (Contains ids) same (is_among other ids is)
    pick false is picked = absurd (cc)

-- the last added is there still where it isn't removed
last_there : (last : Option ℕ) (gone left : List ℕ) → ((id : ℕ) → last ≡ Some id → has_id id gone ≡ false → Contains left id)
    → IfSome (still_last gone last) (Contains left)
last_there None gone left stays = tt
last_there (Some id) gone left stays = kept (has_id id gone) refl
  where
    kept : (has : Bool) → has_id id gone ≡ has → IfSome (if has then None else Some id) (Contains left)
    kept true is = tt
    kept false is = stays id refl is

pub members_named : {A : Type 0} (Form : A → Type 0) (id_of : A → ℕ) (members : List A) (now : ℕ) (last : Option ℕ) (id : ℕ)
    → MembersAre Form id_of members now last → Contains (map id_of members) id → MembersAre Form id_of members id last
members_named Form id_of members now last id are there =
    record { forms = are.forms; differ = are.differ; current = there; added = are.added }

pub members_noted : {A : Type 0} (Form : A → Type 0) (id_of : A → ℕ) (members : List A) (now : ℕ) (last : Option ℕ) (id : ℕ)
    → MembersAre Form id_of members now last → Contains (map id_of members) id → MembersAre Form id_of members now (Some id)
members_noted Form id_of members now last id are there =
    record { forms = are.forms; differ = are.differ; current = are.current; added = there }

pub members_pushed : {A : Type 0} (Form : A → Type 0) (id_of : A → ℕ) (members : List A) (now : ℕ) (last : Option ℕ) (x : A)
    → MembersAre Form id_of members now last → Form x → list_any (nat_eq (id_of x)) (map id_of members) ≡ false
    → MembersAre Form id_of (members ++ x ∷ []) now (Some (id_of x))
members_pushed Form id_of members now last x are form new = record {
  forms = All-push Form members x are.forms form;
  differ = distinct_pushed id_of members x are.differ new;
  current = contains_pushed id_of members x now are.current;
  added = subst (λ ids. Contains ids (id_of x)) (sym (map-append id_of members (x ∷ []))) (Contains-push (map id_of members) (id_of x));
}

pub members_left : {A : Type 0} (Form : A → Type 0) (id_of : A → ℕ) (members : List A) (now : ℕ) (last : Option ℕ) (gone : List ℕ)
    → MembersAre Form id_of members now last → has_id now gone ≡ false
    → MembersAre Form id_of (filter (λ x. not (has_id (id_of x) gone)) members) now (still_last gone last)
members_left Form id_of members now last gone are stays = record {
  forms = All-filter (λ x. not (has_id (id_of x) gone)) Form members are.forms;
  differ = distinct_left id_of (λ id. not (has_id id gone)) members are.differ;
  current = contains_left id_of (λ id. not (has_id id gone)) members now are.current (rw stays);
  added = last_there last gone _ (λ id is kept.
      contains_left id_of (λ other. not (has_id other gone)) members id (last_is id is) (rw kept));
}
  where
    last_is : (id : ℕ) → last ≡ Some id → Contains (map id_of members) id
    last_is id is = subst (λ l. IfSome l (Contains (map id_of members))) is are.added

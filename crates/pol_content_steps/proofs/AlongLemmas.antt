-- Changes that drop facts which name a referent, each one that is there and no two the same, drop all of these where no
-- more name it.
use Rattle.std.proofs.Common.{◌≡◌, ℕ, ◌+◌, ◌≤◌, Bool, true, false, not, cond, ◌&&◌, ◌||◌, List, [], ◌∷◌, length, Option, None, Some, refl, sym, ap, ◌∙◌, arith, inl, inr, true≢false}
use Rattle.std.specs.List.{count_by, list_all, list_any}
use Rattle.std.proofs.lemmas.Bool.{and_from, and_parts, or_cases, or_from, or_parts}
use Rattle.std.proofs.lemmas.List.Sums.{sum_by-cons}
use Rattle.pol_access.specs.Access.{AccessRows, names_in}
use Rattle.pol_access.specs.Referent.{grant_names, join_names, member_names}
use Rattle.pol_access.specs.contracts.rows.GrantRow as grant
use Rattle.pol_access.specs.contracts.rows.JoinRow as join
use Rattle.pol_access.specs.contracts.rows.MemberRow as member
use Rattle.pol_access.specs.declared.referent.Referent.{Referent}
use Rattle.pol_access.specs.declared.rows.CatalogRoleRow.{CatalogRoleRow}
use Rattle.pol_access.specs.declared.rows.GrantRow.{GrantRow}
use Rattle.pol_access.specs.declared.rows.JoinRow.{JoinRow}
use Rattle.pol_access.specs.declared.rows.MemberRow.{MemberRow}
use Rattle.pol_content.specs.declared.change.Change.{Change}
use Rattle.pol_content_steps.specs.Taken.{drops_grant, drops_join, drops_known, drops_member, drops_named, drops_same, each_goes_along, fact_dropped, fact_names, goes_along, is_known, is_same_drop, is_this_grant, is_this_join, is_this_member}
use Rattle.pol_content_steps.specs.declared.taken.Dropped.{Dropped}
use Rattle.pol_content_steps.specs.declared.taken.Dropped.TheVariants.{Member, Join, Grant}
use Rattle.pol_sound_access.specs.Judged.{all_differ}
use Rattle.pol_tables.proofs.SameLemmas.{same-true}

-- what one of the items tells that passes a test
some-told : {X : Type 0} {P : Type 0} (test other : X → Bool) → ((x : X) → other x ≡ true → test x ≡ true → P) → (xs : List X) → list_all other xs ≡ true → list_any test xs ≡ true → P
some-told test other tell [] all some = absurd (true≢false (sym some))
some-told test other tell (x ∷ xs) all some =
    let parts = and_parts (other x) (list_all other xs) all in
    elim (or_cases (test x) (list_any test xs) some) [
      | inl here ↦ tell x parts.0 here
      | inr later ↦ some-told test other tell xs parts.1 later
    ]

-- where none passes a test, none passes a narrower one
none-either : {X : Type 0} (test other : X → Bool) → ((x : X) → test x ≡ true → other x ≡ true) → (xs : List X) → list_any other xs ≡ false → list_any test xs ≡ false
none-either test other so [] none = refl
none-either test other so (x ∷ xs) none =
    let parts = or_parts (other x) (list_any other xs) none in
    or_from (test x) (list_any test xs) (fails (test x) (so x)) (none-either test other so xs parts.1)
  where
    fails : (b : Bool) → (b ≡ true → other x ≡ true) → b ≡ false
    fails true so = sym (so refl) ∙ (or_parts (other x) (list_any other xs) none).0
    fails false so = refl

untrue : (b : Bool) → not b ≡ true → b ≡ false
untrue true is = sym is
untrue false is = refl

-- one where it passes the test
abbrev one : {X : Type 0} → (X → Bool) → X → ℕ
one test x = cond (test x) 1 0

-- of items of which one passes, at least one does
some-counted : {X : Type 0} (test : X → Bool) (xs : List X) → list_any test xs ≡ true → 1 ≤ count_by test xs
some-counted test [] some = absurd (true≢false (sym some))
some-counted test (x ∷ xs) some =
    let by : 1 ≤ one test x + count_by test xs = elim (or_cases (test x) (list_any test xs) some) [
      | inl here ↦ let is : one test x ≡ 1 = ap (λ b. cond b 1 0) here in omega (arith, is)
      | inr later ↦ let rest = some-counted test xs later in omega (arith, rest)
    ] in
    omega (arith, by, sum_by-cons (one test) x xs)

module _ {X : Type 0} (first later : X → Bool) where
  -- of two tests that no item passes both, one or the other
  either-counted : ((x : X) → first x ≡ true → later x ≡ false) → (xs : List X) → count_by (λ x. first x || later x) xs ≡ count_by first xs + count_by later xs
  either-counted apart [] = refl
  either-counted apart (x ∷ xs) =
      let rest = either-counted apart xs in
      let here = by (first x) (apart x) in
      omega (arith, sum_by-cons (one (λ y. first y || later y)) x xs, sum_by-cons (one first) x xs, sum_by-cons (one later) x xs, here, rest)
    where
      by : (b : Bool) → (b ≡ true → later x ≡ false) → cond (b || later x) 1 0 ≡ cond b 1 0 + one later x
      by true apart = let none : one later x ≡ 0 = ap (λ c. cond c 1 0) (apart refl) in omega (arith, none)
      by false apart = omega arith

module _ {X : Type 0} (names gone : X → Bool) (only : (x : X) → gone x ≡ true → names x ≡ true) where
  -- what passes a narrower test is no more
  fewer-counted : (xs : List X) → count_by gone xs ≤ count_by names xs
  fewer-counted [] = omega arith
  fewer-counted (x ∷ xs) =
      let rest = fewer-counted xs in
      let here = by (gone x) (only x) in
      omega (arith, sum_by-cons (one gone) x xs, sum_by-cons (one names) x xs, here, rest)
    where
      by : (b : Bool) → (b ≡ true → names x ≡ true) → cond b 1 0 ≤ one names x
      by true only = let is : one names x ≡ 1 = ap (λ c. cond c 1 0) (only refl) in omega (arith, is)
      by false only = omega arith

  -- and where it is no less, each item that passes the one test passes the other
  all-covered : (xs : List X) → count_by names xs ≤ count_by gone xs → list_all (λ x. not (names x) || gone x) xs ≡ true
  all-covered [] few = refl
  all-covered (x ∷ xs) few =
      let here : one names x + count_by names xs ≤ one gone x + count_by gone xs = omega (arith, few, sum_by-cons (one gone) x xs, sum_by-cons (one names) x xs) in
      by (names x) (gone x) (only x) here (fewer-counted xs) (all-covered xs)
    where
      by : (named is : Bool) → (is ≡ true → named ≡ true) → cond named 1 0 + count_by names xs ≤ cond is 1 0 + count_by gone xs → count_by gone xs ≤ count_by names xs
          → (count_by names xs ≤ count_by gone xs → list_all (λ y. not (names y) || gone y) xs ≡ true) → ((not named || is) && list_all (λ y. not (names y) || gone y) xs) ≡ true
      by true true only here fewer rest = rest (omega (arith, here))
      by true false only here fewer rest = absurd (omega (arith, here, fewer))
      by false true only here fewer rest = absurd (true≢false (sym (only refl)))
      by false false only here fewer rest = rest (omega (arith, here))

module _ (roles : List CatalogRoleRow) (one : Referent) where
  -- what a change drops that drops what names a referent, and this fact: the fact names it
  member-named : (row : MemberRow) (found : Option Dropped) → fact_names roles one found ≡ true → is_this_member row found ≡ true → member_names one row ≡ true
  member-named row None named is = absurd (true≢false (sym is))
  member-named row (Some (Member gone)) named is = ap (member_names one) (sym (same-true member.the_row.coded gone row is)) ∙ named
  member-named row (Some (Join gone)) named is = absurd (true≢false (sym is))
  member-named row (Some (Grant gone)) named is = absurd (true≢false (sym is))

  join-named : (row : JoinRow) (found : Option Dropped) → fact_names roles one found ≡ true → is_this_join row found ≡ true → join_names roles one row ≡ true
  join-named row None named is = absurd (true≢false (sym is))
  join-named row (Some (Member gone)) named is = absurd (true≢false (sym is))
  join-named row (Some (Join gone)) named is = ap (join_names roles one) (sym (same-true join.the_row.coded gone row is)) ∙ named
  join-named row (Some (Grant gone)) named is = absurd (true≢false (sym is))

  grant-named : (row : GrantRow) (found : Option Dropped) → fact_names roles one found ≡ true → is_this_grant row found ≡ true → grant_names roles one row ≡ true
  grant-named row None named is = absurd (true≢false (sym is))
  grant-named row (Some (Member gone)) named is = absurd (true≢false (sym is))
  grant-named row (Some (Join gone)) named is = absurd (true≢false (sym is))
  grant-named row (Some (Grant gone)) named is = ap (grant_names roles one) (sym (same-true grant.the_row.coded gone row is)) ∙ named

  -- what changes drop that drop what names a referent
  module _ (changes : List Change) (named : list_all (drops_named roles one) changes ≡ true) where
    pub member-only : (row : MemberRow) → list_any (drops_member row) changes ≡ true → member_names one row ≡ true
    member-only row =
        some-told (drops_member row) (drops_named roles one) (λ change. member-named row (fact_dropped change)) changes named

    pub join-only : (row : JoinRow) → list_any (drops_join row) changes ≡ true → join_names roles one row ≡ true
    join-only row =
        some-told (drops_join row) (drops_named roles one) (λ change. join-named row (fact_dropped change)) changes named

    pub grant-only : (row : GrantRow) → list_any (drops_grant row) changes ≡ true → grant_names roles one row ≡ true
    grant-only row =
        some-told (drops_grant row) (drops_named roles one) (λ change. grant-named row (fact_dropped change)) changes named

-- two changes that drop one fact drop the same one
member-same : (row : MemberRow) (found later : Option Dropped) → is_this_member row found ≡ true → is_this_member row later ≡ true → is_same_drop found later ≡ true
member-same row None later is again = absurd (true≢false (sym is))
member-same row (Some (Member gone)) later is again =
    ap (λ kept. is_this_member kept later) (same-true member.the_row.coded gone row is) ∙ again
member-same row (Some (Join gone)) later is again = absurd (true≢false (sym is))
member-same row (Some (Grant gone)) later is again = absurd (true≢false (sym is))

join-same : (row : JoinRow) (found later : Option Dropped) → is_this_join row found ≡ true → is_this_join row later ≡ true → is_same_drop found later ≡ true
join-same row None later is again = absurd (true≢false (sym is))
join-same row (Some (Member gone)) later is again = absurd (true≢false (sym is))
join-same row (Some (Join gone)) later is again =
    ap (λ kept. is_this_join kept later) (same-true join.the_row.coded gone row is) ∙ again
join-same row (Some (Grant gone)) later is again = absurd (true≢false (sym is))

grant-same : (row : GrantRow) (found later : Option Dropped) → is_this_grant row found ≡ true → is_this_grant row later ≡ true → is_same_drop found later ≡ true
grant-same row None later is again = absurd (true≢false (sym is))
grant-same row (Some (Member gone)) later is again = absurd (true≢false (sym is))
grant-same row (Some (Join gone)) later is again = absurd (true≢false (sym is))
grant-same row (Some (Grant gone)) later is again =
    ap (λ kept. is_this_grant kept later) (same-true grant.the_row.coded gone row is) ∙ again

module _ (access : AccessRows) where
  -- how many of the facts pass a test of being dropped
  abbrev counted : (MemberRow → Bool) → (JoinRow → Bool) → (GrantRow → Bool) → ℕ
  counted members joins grants =
      count_by members access.members + (count_by joins access.joins + count_by grants access.grants)

  abbrev dropped : List Change → ℕ
  dropped changes =
      counted (λ row. list_any (drops_member row) changes) (λ row. list_any (drops_join row) changes) (λ row. list_any (drops_grant row) changes)

  -- a change that drops a fact which is there drops one
  one-dropped : (found : Option Dropped) → is_known access found ≡ true → 1 ≤ counted (λ row. is_this_member row found) (λ row. is_this_join row found) (λ row. is_this_grant row found)
  one-dropped None known = absurd (true≢false (sym known))
  one-dropped (Some (Member gone)) known =
      let some = some-counted (λ row. is_this_member row (Some (Member gone))) access.members known in
      omega (arith, some)
  one-dropped (Some (Join gone)) known =
      let some = some-counted (λ row. is_this_join row (Some (Join gone))) access.joins known in
      omega (arith, some)
  one-dropped (Some (Grant gone)) known =
      let some = some-counted (λ row. is_this_grant row (Some (Grant gone))) access.grants known in
      omega (arith, some)

  -- changes of which no two drop the same fact drop as many as they are
  all-dropped : (changes : List Change) → list_all (drops_known access) changes ≡ true → all_differ drops_same changes ≡ true → length changes ≤ dropped changes
  unfolding all_differ
  all-dropped [] known apart = omega arith
  all-dropped (change ∷ changes) known apart =
      let is = and_parts (drops_known access change) (list_all (drops_known access) changes) known in
      let differ = and_parts (not (list_any (drops_same change) changes)) (all_differ drops_same changes) apart in
      let new = untrue (list_any (drops_same change) changes) differ.0 in
      let here = one-dropped (fact_dropped change) is.0 in
      let rest = all-dropped changes is.1 differ.1 in
      let members = either-counted (λ row. drops_member row change) (λ row. list_any (drops_member row) changes)
      (λ row first. none-either (drops_member row) (drops_same change) (λ later. member-same row (fact_dropped change) (fact_dropped later) first) changes new) access.members in
      let joins = either-counted (λ row. drops_join row change) (λ row. list_any (drops_join row) changes)
      (λ row first. none-either (drops_join row) (drops_same change) (λ later. join-same row (fact_dropped change) (fact_dropped later) first) changes new) access.joins in
      let grants = either-counted (λ row. drops_grant row change) (λ row. list_any (drops_grant row) changes)
      (λ row first. none-either (drops_grant row) (drops_same change) (λ later. grant-same row (fact_dropped change) (fact_dropped later) first) changes new) access.grants in
      omega (arith, here, rest, members, joins, grants)

  module _ (one : Referent) (changes : List Change) where
    -- and all that name the referent, where all name it and no more do
    pub all-along : list_all (drops_named access.catalog_roles one) changes ≡ true → list_all (drops_known access) changes ≡ true → all_differ drops_same changes ≡ true → names_in one access ≤ length changes
        → each_goes_along one access changes ≡ true
    all-along named known apart few =
        let roles = access.catalog_roles in
        let is_member = member-only roles one changes named in
        let is_join = join-only roles one changes named in
        let is_grant = grant-only roles one changes named in
        let all = all-dropped changes known apart in
        let members = fewer-counted (member_names one) (λ row. list_any (drops_member row) changes) is_member access.members in
        let joins = fewer-counted (join_names roles one) (λ row. list_any (drops_join row) changes) is_join access.joins in
        let grants = fewer-counted (grant_names roles one) (λ row. list_any (drops_grant row) changes) is_grant access.grants in
        let member_list = list_all (goes_along (member_names one) drops_member changes) access.members in
        let join_list = list_all (goes_along (join_names roles one) drops_join changes) access.joins in
        let grant_list = list_all (goes_along (grant_names roles one) drops_grant changes) access.grants in
        let members_go = all-covered (member_names one) (λ row. list_any (drops_member row) changes) is_member access.members (omega (arith, few, all, members, joins, grants)) in
        let joins_go = all-covered (join_names roles one) (λ row. list_any (drops_join row) changes) is_join access.joins (omega (arith, few, all, members, joins, grants)) in
        let grants_go = all-covered (grant_names roles one) (λ row. list_any (drops_grant row) changes) is_grant access.grants (omega (arith, few, all, members, joins, grants)) in
        and_from member_list (join_list && grant_list) members_go (and_from join_list grant_list joins_go grants_go)

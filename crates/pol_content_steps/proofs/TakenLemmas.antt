-- What changes leave of the members, joins and grants, where they drop those that name a referent.
use Rattle.std.proofs.Common.{◌≡◌, ℕ, ◌≤◌, Bool, true, false, not, cond, ◌&&◌, ◌||◌, nat_le, List, [], ◌∷◌, filter, length, refl, sym, ap, ◌∙◌, arith, true≢false}
use Rattle.std.specs.List.{fold, list_all, list_any}
use Rattle.std.proofs.lemmas.Bool.{and_from, and_parts, le-leb, leb-true}
use Rattle.pol_access.specs.Access.{AccessRows, unnamed}
use Rattle.pol_access.specs.Referent.{grant_names, join_names, member_names}
use Rattle.pol_access.specs.declared.referent.Referent.{Referent}
use Rattle.pol_access.specs.declared.rows.CatalogRoleRow.{CatalogRoleRow}
use Rattle.pol_access.specs.declared.rows.GrantRow.{GrantRow}
use Rattle.pol_access.specs.declared.rows.JoinRow.{JoinRow}
use Rattle.pol_access.specs.declared.rows.MemberRow.{MemberRow}
use Rattle.pol_commands.specs.declared.reply.Quantity.TheVariants as quantity
use Rattle.pol_content.specs.declared.change.Change.{Change}
use Rattle.pol_content.specs.declared.change.Change.TheVariants.{Time, NextId, NextSerial, PutPrincipal, DropPrincipal, PutPrincipalRole, DropPrincipalRole, PutCatalog, DropCatalog, PutCatalogRole, DropCatalogRole, PutNamespace, DropNamespace, PutTable, DropTable, PutView, DropView, PutMember, DropMember, PutJoin, DropJoin, PutGrant, DropGrant, PutSession, PutToken}
use Rattle.pol_access_steps.proofs.BoundsLemmas.{Fits}
use Rattle.pol_content_steps.specs.Taken.{drops_grant, drops_join, drops_member, drops_named, fact_dropped, goes_along, takes_along}
use Rattle.pol_content_steps.proofs.AlongLemmas.{grant-only, join-only, member-only}
use Rattle.pol_sound_bounds.specs.Judged.{fits}
use Rattle.pol_state.specs.Applied.{changed}
use Rattle.pol_state.specs.Bounds.{bound_of}
use Rattle.pol_state.specs.Rows.{Rows}
use Rattle.pol_tables.specs.Facts.{facts_without}

-- a filter that keeps each fact
pub whole : {T : Type 0} (facts : List T) → filter (λ fact. true) facts ≡ facts
whole [] = refl
whole (fact ∷ facts) = ap (λ kept. fact ∷ kept) (whole facts)

-- facts without those that one test finds, and then without those that another does
both : {T : Type 0} (first later : T → Bool) (facts : List T) → filter (λ fact. not (later fact)) (filter (λ fact. not (first fact)) facts) ≡ filter (λ fact. not (first fact || later fact)) facts
both first later [] = refl
both first later (fact ∷ facts) =
    let kept = filter (λ one. not (first one)) facts in
    let left = filter (λ one. not (first one || later one)) facts in
    let rest = both first later facts in
    elim (first fact) as (λ b. filter (λ one. not (later one)) (cond (not b) (fact ∷ kept) kept) ≡ cond (not (b || later fact)) (fact ∷ left) left) [
      | true ↦ rest
      | false ↦ ap (λ others. cond (not (later fact)) (fact ∷ others) others) rest
    ]

-- where what is named is dropped, and what is dropped is named, that which stays is what isn't named
agree : (named gone : Bool) → (not named || gone) ≡ true → (gone ≡ true → named ≡ true) → not gone ≡ not named
agree true true covered only = refl
agree true false covered only = absurd (true≢false (sym covered))
agree false true covered only = absurd (true≢false (sym (only refl)))
agree false false covered only = refl

exactly : {T : Type 0} (names gone : T → Bool) → ((fact : T) → gone fact ≡ true → names fact ≡ true) → (facts : List T) → list_all (λ fact. not (names fact) || gone fact) facts ≡ true
    → filter (λ fact. not (gone fact)) facts ≡ unnamed names facts
exactly names gone only [] all = refl
exactly names gone only (fact ∷ facts) all =
    let parts = and_parts (not (names fact) || gone fact) (list_all (λ one. not (names one) || gone one) facts) all in
    let rest = exactly names gone only facts parts.1 in
    λ i. cond (agree (names fact) (gone fact) parts.0 (only fact) i) (fact ∷ rest i) (rest i)

-- rows of which some are left out are no more
module _ {R : Type 0} (keep : R → Bool) where
  fewer : (rows : List R) → length (filter keep rows) ≤ length rows
  fewer [] = omega arith
  fewer (row ∷ rows) =
      let rest = fewer rows in
      elim (keep row) as (λ b. length (cond b (row ∷ filter keep rows) (filter keep rows)) ≤ length (row ∷ rows)) [ true ↦ omega (arith, rest) | false ↦ omega (arith, rest) ]

  pub few-kept : (bound : ℕ) (rows : List R) → nat_le (length rows) bound ≡ true → nat_le (length (filter keep rows)) bound ≡ true
  few-kept bound rows few =
      le-leb (length (filter keep rows)) bound (omega (arith, fewer rows, leb-true (length rows) bound few))

-- the facts that pass no test of being dropped
abbrev left_by : (MemberRow → Bool) → (JoinRow → Bool) → (GrantRow → Bool) → AccessRows → AccessRows
left_by members joins grants access = record access {
  members = filter (λ row. not (members row)) access.members;
  joins = filter (λ row. not (joins row)) access.joins;
  grants = filter (λ row. not (grants row)) access.grants;
}

-- what a change leaves, and what some of them do
abbrev left_by_one : Change → AccessRows → AccessRows
left_by_one change access =
    left_by (λ row. drops_member row change) (λ row. drops_join row change) (λ row. drops_grant row change) access

abbrev left_by_all : List Change → AccessRows → AccessRows
left_by_all changes access =
    left_by (λ row. list_any (drops_member row) changes) (λ row. list_any (drops_join row) changes) (λ row. list_any (drops_grant row) changes) access

module _ (roles : List CatalogRoleRow) (one : Referent) where
  -- a change that drops what names a referent changes the facts alone
  one-left : (s : Rows) (change : Change) → drops_named roles one change ≡ true → changed s change ≡ record s { access = left_by_one change s.access }
  unfolding facts_without fact_dropped
  one-left s (Time time) named = absurd (true≢false (sym named))
  one-left s (NextId id) named = absurd (true≢false (sym named))
  one-left s (NextSerial serial) named = absurd (true≢false (sym named))
  one-left s (PutPrincipal row) named = absurd (true≢false (sym named))
  one-left s (DropPrincipal id) named = absurd (true≢false (sym named))
  one-left s (PutPrincipalRole row) named = absurd (true≢false (sym named))
  one-left s (DropPrincipalRole id) named = absurd (true≢false (sym named))
  one-left s (PutCatalog row) named = absurd (true≢false (sym named))
  one-left s (DropCatalog id) named = absurd (true≢false (sym named))
  one-left s (PutCatalogRole row) named = absurd (true≢false (sym named))
  one-left s (DropCatalogRole id) named = absurd (true≢false (sym named))
  one-left s (PutNamespace row) named = absurd (true≢false (sym named))
  one-left s (DropNamespace id) named = absurd (true≢false (sym named))
  one-left s (PutTable row) named = absurd (true≢false (sym named))
  one-left s (DropTable id) named = absurd (true≢false (sym named))
  one-left s (PutView row) named = absurd (true≢false (sym named))
  one-left s (DropView id) named = absurd (true≢false (sym named))
  one-left s (PutMember row) named = absurd (true≢false (sym named))
  one-left s (DropMember row) named =
      let access : AccessRows = (changed s (DropMember row)).access in
      λ i. record s { access = record access { joins = sym (whole s.access.joins) i; grants = sym (whole s.access.grants) i } }
  one-left s (PutJoin row) named = absurd (true≢false (sym named))
  one-left s (DropJoin row) named =
      let access : AccessRows = (changed s (DropJoin row)).access in
      λ i. record s { access = record access { members = sym (whole s.access.members) i; grants = sym (whole s.access.grants) i } }
  one-left s (PutGrant row) named = absurd (true≢false (sym named))
  one-left s (DropGrant row) named =
      let access : AccessRows = (changed s (DropGrant row)).access in
      λ i. record s { access = record access { members = sym (whole s.access.members) i; joins = sym (whole s.access.joins) i } }
  one-left s (PutSession row) named = absurd (true≢false (sym named))
  one-left s (PutToken row) named = absurd (true≢false (sym named))

  all-left : (changes : List Change) (s : Rows) → list_all (drops_named roles one) changes ≡ true → fold changed s changes ≡ record s { access = left_by_all changes s.access }
  all-left [] s all =
      λ i. record s { access = record s.access { members = sym (whole s.access.members) i; joins = sym (whole s.access.joins) i; grants = sym (whole s.access.grants) i } }
  all-left (change ∷ changes) s all =
      let parts = and_parts (drops_named roles one change) (list_all (drops_named roles one) changes) all in
      let next : Rows = record s { access = left_by_one change s.access } in
      ap (λ (t : Rows). fold changed t changes) (one-left s change parts.0)
      ∙ all-left changes next parts.1
      ∙ (λ i. record s {
        access = record s.access {
          members = both (λ row. drops_member row change) (λ row. list_any (drops_member row) changes) s.access.members i;
          joins = both (λ row. drops_join row change) (λ row. list_any (drops_join row) changes) s.access.joins i;
          grants = both (λ row. drops_grant row change) (λ row. list_any (drops_grant row) changes) s.access.grants i;
        };
      })

module _ (one : Referent) where
  -- the rows without the facts that name a referent
  abbrev pub all_unnamed : AccessRows → AccessRows
  all_unnamed access = record access {
    members = unnamed (member_names one) access.members;
    joins = unnamed (join_names access.catalog_roles one) access.joins;
    grants = unnamed (grant_names access.catalog_roles one) access.grants;
  }

  -- the rows without the facts that name a referent, where the catalogue roles were these
  abbrev pub unnamed_among : List CatalogRoleRow → AccessRows → AccessRows
  unnamed_among roles access = record access {
    members = unnamed (member_names one) access.members;
    joins = unnamed (join_names roles one) access.joins;
    grants = unnamed (grant_names roles one) access.grants;
  }

  -- changes that drop exactly these facts lead to them
  pub taken-among : (roles : List CatalogRoleRow) (s : Rows) (changes : List Change) → takes_along one (record s.access { catalog_roles = roles }) changes ≡ true
      → fold changed s changes ≡ record s { access = unnamed_among roles s.access }
  taken-among roles s changes takes =
      let access = s.access in
      let each = list_all (drops_named roles one) changes in
      let members = list_all (goes_along (member_names one) drops_member changes) access.members in
      let joins = list_all (goes_along (join_names roles one) drops_join changes) access.joins in
      let grants = list_all (goes_along (grant_names roles one) drops_grant changes) access.grants in
      let first = and_parts each (members && (joins && grants)) takes in
      let second = and_parts members (joins && grants) first.1 in
      let last = and_parts joins grants second.1 in
      let members_left = exactly (member_names one) (λ row. list_any (drops_member row) changes) (member-only roles one changes first.0) access.members second.0 in
      let joins_left = exactly (join_names roles one) (λ row. list_any (drops_join row) changes) (join-only roles one changes first.0) access.joins last.0 in
      let grants_left = exactly (grant_names roles one) (λ row. list_any (drops_grant row) changes) (grant-only roles one changes first.0) access.grants last.1 in
      all-left roles one changes s first.0
      ∙ (λ i. record s { access = record access { members = members_left i; joins = joins_left i; grants = grants_left i } })

  -- and where the catalogue roles are those that were
  pub taken-along : (s : Rows) (changes : List Change) → takes_along one s.access changes ≡ true → fold changed s changes ≡ record s { access = all_unnamed s.access }
  taken-along s = taken-among s.access.catalog_roles s

  -- and they are within the bounds that all of them were
  pub unnamed-fit : (s : Rows) → Fits s → Fits (record s { access = all_unnamed s.access })
  unnamed-fit s f =
      let access = s.access in
      let left = all_unnamed access in
      let some = fits quantity.Joins (length access.joins) && fits quantity.Grants (length access.grants) in
      let some_left = fits quantity.Joins (length left.joins) && fits quantity.Grants (length left.grants) in
      let first = and_parts (fits quantity.Members (length access.members)) some f.facts in
      let last = and_parts (fits quantity.Joins (length access.joins)) (fits quantity.Grants (length access.grants)) first.1 in
      let members = few-kept (λ row. not (member_names one row)) (bound_of quantity.Members) access.members first.0 in
      let joins = few-kept (λ row. not (join_names access.catalog_roles one row)) (bound_of quantity.Joins) access.joins last.0 in
      let grants = few-kept (λ row. not (grant_names access.catalog_roles one row)) (bound_of quantity.Grants) access.grants last.1 in
      record {
        parts = f.parts;
        holders = f.holders;
        facts = and_from (fits quantity.Members (length left.members)) some_left members (and_from (fits quantity.Joins (length left.joins)) (fits quantity.Grants (length left.grants)) joins grants);
        counters = f.counters;
        numbers = f.numbers;
      }

-- A sound state with one more member, join or grant is sound, and so is one without a member, join or grant that isn't
-- always there.
use denote.Enum.Bare.{true_same}
use Rattle.std.proofs.Common.{◌≡◌, ◌≢◌, ℕ, ◌+◌, Bool, true, false, not, ◌&&◌, ◌||◌, nat_lt, List, [], ◌∷◌, filter, length, length-append, codes, Option, Some, None, refl, sym, ap, subst, ◌∙◌, arith, inl, inr, true≢false}
use Rattle.std.specs.Cmp.Lexicographic.{nat_list_eq_equiv}
use Rattle.std.specs.Coded.{Coded}
use Rattle.std.specs.Str.{bytes_eq}
use Rattle.std.proofs.lemmas.Bool.{and_from, and_parts, cases_Bool, eqb-true, le-leb, leb-true, ltb-true, or_left, or_right}
use Rattle.std.proofs.lemmas.List.Filters.{length-filter_both}
use Rattle.pol_access.specs.Access.{AccessRows, catalog_role_id, principal_id, principal_role_id}
use Rattle.pol_access.specs.Names.{has_name, has_role_name}
use Rattle.pol_access.specs.Privilege.{grantable, same_privilege}
use Rattle.pol_access.specs.Securable.{kind_of}
use Rattle.pol_access.specs.Sound.{IsGrantOf, IsSecurableGiven, IsSoundAccess}
use Rattle.pol_access.specs.contracts.privilege.Privilege.{the_type}
use Rattle.pol_access.specs.contracts.rows.GrantRow as grant
use Rattle.pol_access.specs.contracts.rows.JoinRow as join
use Rattle.pol_access.specs.contracts.rows.MemberRow as member
use Rattle.pol_access.specs.declared.privilege.Privilege.{Privilege}
use Rattle.pol_access.specs.declared.privilege.Privilege.TheVariants.{CatalogManageAccess, CatalogManageContent}
use Rattle.pol_access.specs.declared.rows.CatalogRoleRow.{CatalogRoleRow}
use Rattle.pol_access.specs.declared.rows.GrantRow.{GrantRow}
use Rattle.pol_access.specs.declared.rows.JoinRow.{JoinRow}
use Rattle.pol_access.specs.declared.rows.MemberRow.{MemberRow}
use Rattle.pol_access.specs.declared.rows.PrincipalRoleRow.{PrincipalRoleRow}
use Rattle.pol_access.specs.declared.rows.PrincipalRow.{PrincipalRow}
use Rattle.pol_access.specs.declared.securable.Securable.{Securable}
use Rattle.pol_access.specs.declared.securable.Securable.TheVariants as securable
use Rattle.pol_access.proofs.KeptLemmas.{found-passes}
use Rattle.pol_access.proofs.SoundLemmas as access
use Rattle.pol_commands.specs.declared.reply.Quantity.{Quantity}
use Rattle.pol_commands.specs.declared.reply.Quantity.TheVariants as quantity
use Rattle.pol_content.specs.Content.{ContentRows}
use Rattle.pol_content.specs.Ties.{AreTied, IsGrantWithin, catalog_of}
use Rattle.pol_content.specs.declared.change.Change.TheVariants.{DropGrant, DropJoin, DropMember, PutGrant, PutJoin, PutMember}
use Rattle.pol_content.proofs.TiesLemmas as ties
use Rattle.pol_sound_access.specs.Judged.{is_grant_there, is_join_there, is_member_there, is_securable_given}
use Rattle.pol_sound_access.proofs.DecidedLemmas.{given}
use Rattle.pol_sound_bounds.specs.Judged.{fits}
use Rattle.pol_access_steps.specs.Facts.{has_place, is_catalog_admin, is_managing, is_other_grant, is_other_join, is_other_member, may_drop_grant, may_drop_join, may_drop_member, may_put_grant, may_put_join, may_put_member}
use Rattle.pol_access_steps.specs.Counters.{counted, may_follow}
use Rattle.pol_access_steps.specs.declared.counters.Counters.{Counters}
use Rattle.pol_access_steps.proofs.BoundsLemmas.{fits-of, within-of}
use Rattle.pol_access_steps.proofs.CountersLemmas.{counted-sound}
use Rattle.pol_soundness.specs.Judged.{is_within, lies_in}
use Rattle.pol_state.specs.Applied.{changed}
use Rattle.pol_state.specs.Bounds.{bound_of}
use Rattle.pol_state.specs.Rows.{Rows}
use Rattle.pol_state.specs.Sound.{IsSound}
use Rattle.pol_tables.specs.Facts.{facts_with, facts_without, holds}
use Rattle.pol_tables.specs.Same.{same}
use Rattle.pol_tables.specs.Table.{has_id, knows, row_of}
use Rattle.pol_tables.proofs.FactsLemmas.{facts_with-known, facts_with-new}
use Rattle.pol_tables.proofs.RisingLemmas.{IdsDiffer-rising}

-- how many facts there are once one is put where it has its place, and once one is dropped
module _ {T : Type 0} (code : Coded T) (kind : Quantity) (fact : T) (facts : List T) (few : fits kind (length facts) ≡ true) where
  few-put : has_place code kind fact facts ≡ true → fits kind (length (facts_with code fact facts)) ≡ true
  few-put place = elim (cases_Bool (holds code fact facts)) [
    | inl known ↦ ap (λ (some : List T). fits kind (length some)) (facts_with-known code fact facts known) ∙ few
    | inr new ↦
        let more = ltb-true (length facts) (bound_of kind) (sym (ap (λ b. b || nat_lt (length facts) (bound_of kind)) new) ∙ place) in
        let last : length (facts_with code fact facts) ≡ length facts + 1 = ap length (facts_with-new code fact facts new) ∙ length-append facts (fact ∷ []) in
        le-leb (length (facts_with code fact facts)) (bound_of kind) (omega (arith, last, more))
  ]

  few-dropped : fits kind (length (facts_without code fact facts)) ≡ true
  unfolding facts_without
  few-dropped =
      let keep : T → Bool = λ kept. not (same code fact kept) in
      le-leb (length (filter keep facts)) (bound_of kind) (omega (arith, length-filter_both keep (λ kept. not (keep kept)) (λ kept. refl) facts, leb-true (length facts) (bound_of kind) few))

-- the row of an id has that id, and is that of its own
row-own : {R : Type 0} (key : R → ℕ) (id : ℕ) (rows : List R) (row : R) → row_of key id rows ≡ Some row → (id ≡ key row) × (row_of key (key row) rows ≡ Some row)
row-own key id rows row there =
    let is = eqb-true id (key row) (found-passes (has_id key id) rows row there) in
    (is, ap (λ one. row_of key one rows) (sym is) ∙ there)

-- a name is found to be what it is, and not both of two tests are passed
named : (name other : List ℕ) → other ≡ name → bytes_eq name other ≡ true
named name other is = ap (bytes_eq name) is ∙ nat_list_eq_equiv.refl name

not-both : (left right : Bool) → not (left && right) ≡ true → left ≡ true → right ≡ true → ⊥
not-both true true fails first second = true≢false (sym fails)
not-both true false fails first second = true≢false (sym second)
not-both false right fails first second = true≢false (sym first)

other-fails : (left right : Bool) → not (left && right) ≡ true → left ≡ true → right ≡ false
other-fails left true fails first = absurd (not-both left true fails first refl)
other-fails left false fails first = refl

-- what the tests of a grant tell
securable-told : (next_id : ℕ) (one : Securable) → is_securable_given next_id one ≡ true → IsSecurableGiven next_id one
securable-told next_id securable.Realm is = tt
securable-told next_id (securable.Catalog id) is = (given next_id id).0 is
securable-told next_id (securable.Namespace id) is = (given next_id id).0 is
securable-told next_id (securable.Table id) is = (given next_id id).0 is
securable-told next_id (securable.View id) is = (given next_id id).0 is

grant-told : (next_id : ℕ) (rows : AccessRows) (row : GrantRow) → is_grant_there next_id rows row ≡ true → IsGrantOf next_id rows.catalog_roles row
grant-told next_id rows row there =
    let allowed = grantable row.privilege (kind_of row.securable) in
    let first = and_parts (knows catalog_role_id row.catalog_role rows.catalog_roles) (is_securable_given next_id row.securable && allowed) there in
    let second = and_parts (is_securable_given next_id row.securable) allowed first.1 in
    record { role = first.0; securable = securable-told next_id row.securable second.0; allowed = second.1 }

within-told : (rows : AccessRows) (content : ContentRows) (row : GrantRow) → is_within rows content row ≡ true → IsGrantWithin rows content row
within-told rows content row = by (row_of catalog_role_id row.catalog_role rows.catalog_roles) (catalog_of row.securable content) refl refl
  where
    by : (role : Option CatalogRoleRow) (catalog : Option ℕ) → row_of catalog_role_id row.catalog_role rows.catalog_roles ≡ role → catalog_of row.securable content ≡ catalog
        → lies_in role catalog ≡ true → IsGrantWithin rows content row
    by None catalog there lies is = absurd (true≢false (sym is))
    by (Some role) None there lies is = absurd (true≢false (sym is))
    by (Some role) (Some catalog) there lies is = record { role = role; there = there; within = lies ∙ ap Some (eqb-true catalog role.catalog is) }

module _ (t : Rows) (sound : IsSound t) where
  -- the rows of access with other facts
  abbrev facts : List MemberRow → List JoinRow → List GrantRow → AccessRows
  facts members joins grants = record t.access { members = members; joins = joins; grants = grants }

  -- there are few facts
  abbrev Few : List MemberRow → List JoinRow → List GrantRow → Type 0
  Few members joins grants =
      (fits quantity.Members (length members) ≡ true) × ((fits quantity.Joins (length joins) ≡ true) × (fits quantity.Grants (length grants) ≡ true))

  few-now : Few t.access.members t.access.joins t.access.grants
  few-now =
      let joins = fits quantity.Joins (length t.access.joins) in
      let grants = fits quantity.Grants (length t.access.grants) in
      let first = and_parts (fits quantity.Members (length t.access.members)) (joins && grants) (fits-of t sound).facts in
      (first.0, and_parts joins grants first.1)

  -- the state with other facts that are sound, tied and few
  facts-sound : (members : List MemberRow) (joins : List JoinRow) (grants : List GrantRow) → Few members joins grants
      → IsSoundAccess t.next_id (facts members joins grants) → AreTied (facts members joins grants) t.content → IsSound (record t { access = facts members joins grants })
  facts-sound members joins grants few is tied =
      let f = fits-of t sound in
      let few_joins = fits quantity.Joins (length joins) in
      let few_grants = fits quantity.Grants (length grants) in
      record {
        orderly = record {
          access = is;
          content = sound.orderly.content;
          ties = tied;
          tokens = sound.orderly.tokens;
          tokens_fit = sound.orderly.tokens_fit;
          time_bound = sound.orderly.time_bound;
          charged_bound = sound.orderly.charged_bound;
        };
        within = within-of (record t { access = facts members joins grants }) (record {
          parts = f.parts;
          holders = f.holders;
          facts = and_from (fits quantity.Members (length members)) (few_joins && few_grants) few.0 (and_from few_joins few_grants few.1.0 few.1.1);
          counters = f.counters;
          numbers = f.numbers;
        });
      }

  -- with a member
  with-member : (row : MemberRow) → may_put_member t row ≡ true → IsSound (changed t (PutMember row))
  with-member row may =
      let place = has_place member.the_row.coded quantity.Members row t.access.members in
      let both = and_parts (is_member_there t.access row) place may in
      let there = and_parts (knows principal_id row.principal t.access.principals) (knows principal_role_id row.role t.access.principal_roles) both.0 in
      let members = facts_with member.the_row.coded row t.access.members in
      facts-sound members t.access.joins t.access.grants
      (few-put member.the_row.coded quantity.Members row t.access.members few-now.0 both.1, few-now.1)
      (access.put_member t.next_id t.access row sound.orderly.access there.0 there.1)
      (ties.members_keep t.access t.content sound.orderly.ties members)

  -- without one
  without-member : (row : MemberRow) → may_drop_member t row ≡ true → IsSound (changed t (DropMember row))
  without-member row =
      by (row_of principal_id row.principal t.access.principals) (row_of principal_role_id row.role t.access.principal_roles) refl refl
    where
      by : (principal : Option PrincipalRow) (role : Option PrincipalRoleRow) → row_of principal_id row.principal t.access.principals ≡ principal
          → row_of principal_role_id row.role t.access.principal_roles ≡ role → is_other_member principal role ≡ true → IsSound (changed t (DropMember row))
      by None role found there other = absurd (true≢false (sym other))
      by (Some principal) None found there other = absurd (true≢false (sym other))
      by (Some principal) (Some role) found there other =
          let of = row-own principal_id row.principal t.access.principals principal found in
          let in_role = row-own principal_role_id row.role t.access.principal_roles role there in
          let is : row ≡ record { principal = principal.id; role = role.id } = λ i. record { principal = of.0 i; role = in_role.0 i } in
          let without : MemberRow → List MemberRow = λ one. facts_without member.the_row.coded one t.access.members in
          let apart : principal.name ≡ codes "root" → role.name ≢ codes "service_admin" = λ root admin.
          not-both (has_name (codes "root") principal) (has_role_name (codes "service_admin") role) other
          (named (codes "root") principal.name root) (named (codes "service_admin") role.name admin) in
          facts-sound (without row) t.access.joins t.access.grants
          (few-dropped member.the_row.coded quantity.Members row t.access.members few-now.0, few-now.1)
          (subst (λ one. IsSoundAccess t.next_id (record t.access { members = without one })) (sym is)
          (access.dropped_member t.next_id t.access principal role sound.orderly.access of.1 in_role.1 apart))
          (ties.members_keep t.access t.content sound.orderly.ties (without row))

  -- with a join
  with-join : (row : JoinRow) → may_put_join t row ≡ true → IsSound (changed t (PutJoin row))
  with-join row may =
      let place = has_place join.the_row.coded quantity.Joins row t.access.joins in
      let both = and_parts (is_join_there t.access row) place may in
      let there = and_parts (knows principal_role_id row.principal_role t.access.principal_roles) (knows catalog_role_id row.catalog_role t.access.catalog_roles) both.0 in
      facts-sound t.access.members (facts_with join.the_row.coded row t.access.joins) t.access.grants
      (few-now.0, (few-put join.the_row.coded quantity.Joins row t.access.joins few-now.1.0 both.1, few-now.1.1))
      (access.put_join t.next_id t.access row sound.orderly.access there.0 there.1)
      (ties.put_join t.access t.content sound.orderly.ties row)

  -- without one
  without-join : (row : JoinRow) → may_drop_join t row ≡ true → IsSound (changed t (DropJoin row))
  without-join row =
      by (row_of principal_role_id row.principal_role t.access.principal_roles) (row_of catalog_role_id row.catalog_role t.access.catalog_roles) refl refl
    where
      by : (role : Option PrincipalRoleRow) (to : Option CatalogRoleRow) → row_of principal_role_id row.principal_role t.access.principal_roles ≡ role
          → row_of catalog_role_id row.catalog_role t.access.catalog_roles ≡ to → is_other_join role to ≡ true → IsSound (changed t (DropJoin row))
      by None to found there other = absurd (true≢false (sym other))
      by (Some role) None found there other = absurd (true≢false (sym other))
      by (Some role) (Some to) found there other =
          let from = row-own principal_role_id row.principal_role t.access.principal_roles role found in
          let into = row-own catalog_role_id row.catalog_role t.access.catalog_roles to there in
          let is : row ≡ record { principal_role = role.id; catalog_role = to.id } = λ i. record { principal_role = from.0 i; catalog_role = into.0 i } in
          let without : JoinRow → List JoinRow = λ one. facts_without join.the_row.coded one t.access.joins in
          let roles_differ = IdsDiffer-rising principal_role_id t.access.principal_roles sound.orderly.access.principal_roles.rise in
          let differ = IdsDiffer-rising catalog_role_id t.access.catalog_roles sound.orderly.access.catalog_roles.rise in
          let apart : role.name ≡ codes "service_admin" → to.name ≢ codes "catalog_admin" = λ service admin.
          not-both (has_role_name (codes "service_admin") role) (is_catalog_admin to) other
          (named (codes "service_admin") role.name service) (named (codes "catalog_admin") to.name admin) in
          facts-sound t.access.members (without row) t.access.grants
          (few-now.0, (few-dropped join.the_row.coded quantity.Joins row t.access.joins few-now.1.0, few-now.1.1))
          (access.dropped_join t.next_id t.access row sound.orderly.access)
          (subst (λ one. AreTied (record t.access { joins = without one }) t.content) (sym is)
          (ties.dropped_join t.access t.content sound.orderly.ties role to roles_differ differ from.1 into.1 apart))

  -- with a grant
  abbrev place_as_grant : GrantRow → Bool
  place_as_grant row = has_place grant.the_row.coded quantity.Grants row t.access.grants

  with-grant : (row : GrantRow) → (is_grant_there t.next_id t.access row && (is_within t.access t.content row && place_as_grant row)) ≡ true → IsSound (changed t (PutGrant row))
  with-grant row may =
      let place = place_as_grant row in
      let first = and_parts (is_grant_there t.next_id t.access row) (is_within t.access t.content row && place) may in
      let second = and_parts (is_within t.access t.content row) place first.1 in
      facts-sound t.access.members t.access.joins (facts_with grant.the_row.coded row t.access.grants)
      (few-now.0, (few-now.1.0, few-put grant.the_row.coded quantity.Grants row t.access.grants few-now.1.1 second.1))
      (access.put_grant t.next_id t.access row sound.orderly.access (grant-told t.next_id t.access row first.0))
      (ties.put_grant t.access t.content sound.orderly.ties row (within-told t.access t.content row second.0))

  -- without one
  managing : (privilege : Privilege) → is_managing privilege ≡ false → (privilege ≢ CatalogManageAccess) × (privilege ≢ CatalogManageContent)
  managing privilege fails =
      let accesses = same_privilege privilege CatalogManageAccess in
      let contents = same_privilege privilege CatalogManageContent in (
        λ is. true≢false (sym (or_left accesses contents (true_same the_type privilege CatalogManageAccess is)) ∙ fails),
        λ is. true≢false (sym (or_right accesses contents (true_same the_type privilege CatalogManageContent is)) ∙ fails),
      )

  without-grant : (row : GrantRow) → may_drop_grant t row ≡ true → IsSound (changed t (DropGrant row))
  without-grant row = by (row_of catalog_role_id row.catalog_role t.access.catalog_roles) refl
    where
      by : (role : Option CatalogRoleRow) → row_of catalog_role_id row.catalog_role t.access.catalog_roles ≡ role
          → is_other_grant row.privilege role ≡ true → IsSound (changed t (DropGrant row))
      by None there other = absurd (true≢false (sym other))
      by (Some role) there other =
          let differ = IdsDiffer-rising catalog_role_id t.access.catalog_roles sound.orderly.access.catalog_roles.rise in
          facts-sound t.access.members t.access.joins (facts_without grant.the_row.coded row t.access.grants)
          (few-now.0, (few-now.1.0, few-dropped grant.the_row.coded quantity.Grants row t.access.grants few-now.1.1))
          ((access.dropped_grants t.next_id t.access sound.orderly.access).0 row)
          (ties.dropped_grant t.access t.content sound.orderly.ties role row differ there (λ admin on_catalog.
          managing row.privilege (other-fails (is_catalog_admin role) (is_managing row.privilege) other (named (codes "catalog_admin") role.name admin))))

module _ (s : Rows) (sound : IsSound s) (counters : Counters) (follows : may_follow s counters ≡ true) where
  abbrev after : Rows
  after = counted s counters

  base : IsSound after
  base = counted-sound s sound counters follows

  -- a member, a join and a grant may be put
  pub put_member-sound : (row : MemberRow) → may_put_member s row ≡ true → IsSound (changed after (PutMember row))
  put_member-sound row may = with-member after base row may

  pub put_join-sound : (row : JoinRow) → may_put_join s row ≡ true → IsSound (changed after (PutJoin row))
  put_join-sound row may = with-join after base row may

  pub put_grant-sound : (row : GrantRow) → may_put_grant s counters row ≡ true → IsSound (changed after (PutGrant row))
  put_grant-sound row may = with-grant after base row may

  -- and may be dropped
  pub dropped_member-sound : (row : MemberRow) → may_drop_member s row ≡ true → IsSound (changed after (DropMember row))
  dropped_member-sound row may = without-member after base row may

  pub dropped_join-sound : (row : JoinRow) → may_drop_join s row ≡ true → IsSound (changed after (DropJoin row))
  dropped_join-sound row may = without-join after base row may

  pub dropped_grant-sound : (row : GrantRow) → may_drop_grant s row ≡ true → IsSound (changed after (DropGrant row))
  dropped_grant-sound row may = without-grant after base row may

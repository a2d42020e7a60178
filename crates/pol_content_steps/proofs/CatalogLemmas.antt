-- A sound state with one more catalogue, and its `catalog_admin`, is sound.
use Rattle.std.proofs.Common.{◌≡◌, ℕ, ◌+◌, ◌<◌, ◌≤◌, true, false, ◌&&◌, nat_eq, nat_lt, List, [], ◌∷◌, ◌++◌, codes, get_or, length, length-append, Option, None, Some, is_none, is_some, refl, sym, ap, subst, ◌∙◌, arith, inl, inr, true≢false}
use Rattle.std.specs.Coded.{Coded}
use Rattle.std.specs.Str.{bytes_eq}
use Rattle.std.proofs.lemmas.Bool.{and_from, and_parts, cases_Bool, eq-eqb, eqb-true, le-leb, ltb-true, ne_eqb}
use Rattle.std.proofs.lemmas.Slice.Eq.{bytes_eq-Decides}
use Rattle.pol_access.specs.Access.{AccessRows, catalog_role_id, principal_role_id}
use Rattle.pol_access.specs.Names.{catalog_role_named, has_catalog_role_name, has_role_name, principal_role_named}
use Rattle.pol_access.specs.Privilege.{grantable}
use Rattle.pol_access.specs.contracts.rows.GrantRow as grant
use Rattle.pol_access.specs.contracts.rows.JoinRow as join
use Rattle.pol_access.specs.declared.privilege.Privilege.TheVariants.{CatalogManageAccess, CatalogManageContent}
use Rattle.pol_access.specs.declared.rows.CatalogRoleRow.{CatalogRoleRow}
use Rattle.pol_access.specs.declared.rows.GrantRow.{GrantRow}
use Rattle.pol_access.specs.declared.rows.JoinRow.{JoinRow}
use Rattle.pol_access.specs.declared.rows.PrincipalRoleRow.{PrincipalRoleRow}
use Rattle.pol_access.specs.declared.securable.Securable.TheVariants as securable
use Rattle.pol_access.specs.declared.securable.SecurableKind.TheVariants as kind
use Rattle.pol_access.proofs.KeptLemmas.{found-holds}
use Rattle.pol_access.proofs.SoundLemmas as access
use Rattle.pol_access_steps.specs.Counters.{counted, is_new_id, may_follow}
use Rattle.pol_access_steps.specs.declared.counters.Counters.{Counters}
use Rattle.pol_access_steps.proofs.BoundsLemmas.{all-with, few-with, fits-of, within-of, Fits}
use Rattle.pol_access_steps.proofs.CountersLemmas.{counted-sound, new-id, no-access_id, none-told, unknown-later}
use Rattle.pol_commands.specs.declared.reply.Quantity.TheVariants as quantity
use Rattle.pol_content.specs.Content.{ContentRows, catalog_id, catalog_named}
use Rattle.pol_content.specs.Sound.{IsSoundContent}
use Rattle.pol_content.specs.Ties.{AreTied, admin_grant, admin_join, admin_of, with_admin}
use Rattle.pol_content.specs.declared.change.Change.TheVariants.{PutCatalog, PutCatalogRole, PutGrant, PutJoin}
use Rattle.pol_content.specs.declared.rows.CatalogRow.{CatalogRow}
use Rattle.pol_content.proofs.SoundLemmas as content
use Rattle.pol_content.proofs.TiedContentLemmas.{created_catalog}
use Rattle.pol_content.proofs.TiesLemmas.{new_ids}
use Rattle.pol_content_steps.specs.Catalogs.{are_grants_new, is_admin, is_admin_new, is_catalog_new, is_join_new, is_join_of, is_next, is_own_grant, may_create_catalog, own_grant}
use Rattle.pol_rules.proofs.SoundLemmas.{next_id-some}
use Rattle.pol_sound_bounds.specs.Judged.{catalog_fits, fits}
use Rattle.pol_state.specs.Applied.{changed}
use Rattle.pol_state.specs.Bounds.{bound_of}
use Rattle.pol_state.specs.Rows.{Rows}
use Rattle.pol_state.specs.Sound.{IsCatalogRoleOf, IsGiven, IsSound, IsSoundAccess}
use Rattle.pol_tables.specs.Facts.{facts_with, holds}
use Rattle.pol_tables.specs.Table.{knows, row_of, rows_with}
use Rattle.pol_tables.proofs.FactsLemmas.{facts_with-known, facts_with-new}
use Rattle.pol_tables.proofs.ListLemmas.{each-weaken, or_true}
use Rattle.pol_tables.proofs.NamedLemmas.{each-own, find-none}
use Rattle.pol_tables.proofs.RisingLemmas.{IdsDiffer-rising}
use Rattle.pol_tables.proofs.SameLemmas.{same-true}
use Rattle.pol_tables.proofs.TableLemmas.{is_some-row_of, rows_with-new}

-- both grants of a `catalog_admin` are of privileges that may be granted on a catalogue
may_have_access : grantable CatalogManageAccess kind.Catalog ≡ true
unfolding grantable
may_have_access = refl

may_have_content : grantable CatalogManageContent kind.Catalog ≡ true
unfolding grantable
may_have_content = refl

-- a row that goes last is there
knows-last : {R : Type 0} (key : R → ℕ) (row : R) (rows : List R) → knows key (key row) (rows ++ row ∷ []) ≡ true
knows-last key row [] = rw (eq-eqb (key row) (key row) refl) refl
knows-last key row (first ∷ rows) = rw (knows-last key row rows) (or_true (nat_eq (key row) (key first)))

-- a fact that is put makes at most one more
at-most-one : {T : Type 0} (code : Coded T) (fact : T) (facts : List T) → length (facts_with code fact facts) ≤ length facts + 1
at-most-one code fact facts = elim (cases_Bool (holds code fact facts)) [
  | inl known ↦ let same = ap length (facts_with-known code fact facts known) in omega (arith, same)
  | inr new ↦
      let more = ap length (facts_with-new code fact facts new) ∙ length-append facts (fact ∷ []) in
      omega (arith, more)
]

module _ (s : Rows) (sound : IsSound s) (counters : Counters) (follows : may_follow s counters ≡ true) (row : CatalogRow) where
  -- what is told of a catalogue that may be created
  record IsNew : Type 0 where
    later : s.next_id ≤ row.id
    below : row.id + 1 < counters.next_id
    free : catalog_named row.name s.content ≡ None
    fits_by_itself : catalog_fits row ≡ true
    catalogs : nat_lt (length s.content.catalogs) (bound_of quantity.Catalogs) ≡ true
    roles : nat_lt (length s.access.catalog_roles) (bound_of quantity.CatalogRoles) ≡ true
    joins : nat_lt (length s.access.joins) (bound_of quantity.Joins) ≡ true
    grants : nat_lt (length s.access.grants + 1) (bound_of quantity.Grants) ≡ true

  -- the catalogues with it
  abbrev content_after : ContentRows
  content_after = record s.content { catalogs = rows_with catalog_id row s.content.catalogs }

  -- the rows of access with its `catalog_admin`, where `service_admin` has this row
  abbrev access_after : PrincipalRoleRow → AccessRows
  access_after service = with_admin row.id service.id s.access

  abbrev after : PrincipalRoleRow → Rows
  after service = record (counted s counters) { access = access_after service; content = content_after }

  module _ (new : IsNew) where
    unknown : knows catalog_id row.id s.content.catalogs ≡ false
    unknown = unknown-later s sound catalog_id s.content.catalogs sound.orderly.content.catalogs row.id new.later

    role-unknown : knows catalog_role_id (row.id + 1) s.access.catalog_roles ≡ false
    role-unknown = unknown-later s sound catalog_role_id s.access.catalog_roles sound.orderly.access.catalog_roles (row.id + 1) (let later = new.later in omega (arith, later))

    content-sound : IsSoundContent counters.next_id content_after
    content-sound =
        let rows = s.content.catalogs in
        let some = next_id-some s sound in
        let later = new.later in
        let below = new.below in
        let before = content.more_ids s.next_id row.id s.content later sound.orderly.content in
        let pushed = content.pushed_catalog row.id s.content row before (omega (arith, some, later)) refl new.free in
        let more = content.more_ids (row.id + 1) counters.next_id (record s.content { catalogs = rows ++ row ∷ [] }) (omega (arith, below)) pushed in
        subst (λ kept. IsSoundContent counters.next_id (record s.content { catalogs = kept })) (sym (rows_with-new catalog_id row rows unknown)) more

    -- no role was a new catalogue's
    role-free : catalog_role_named row.id (codes "catalog_admin") s.access ≡ None
    role-free =
        let roles = s.access.catalog_roles in
        let later = new.later in
        let lacks : (one : CatalogRoleRow) → IsCatalogRoleOf s.next_id s.access.principals s.access.principal_roles one → has_catalog_role_name row.id (codes "catalog_admin") one ≡ false = λ one known.
        ap (λ b. b && bytes_eq (codes "catalog_admin") one.name) (ne_eqb one.catalog row.id (λ is. let below = known.catalog.1 in omega (arith, below, is, later))) in
        find-none (has_catalog_role_name row.id (codes "catalog_admin")) roles (each-weaken (IsCatalogRoleOf s.next_id s.access.principals s.access.principal_roles) (λ one. has_catalog_role_name row.id (codes "catalog_admin") one ≡ false) roles lacks sound.orderly.access.catalog_roles_known)

    -- its `catalog_admin`, beside the other roles
    abbrev with_role : AccessRows
    with_role = record s.access { catalog_roles = s.access.catalog_roles ++ admin_of row.id ∷ [] }

    role-sound : IsSoundAccess counters.next_id with_role
    role-sound =
        let next = row.id + 1 in
        let some = next_id-some s sound in
        let later = new.later in
        let below = new.below in
        let more = access.more_ids s.next_id next s.access (omega (arith, later)) sound.orderly.access in
        let given : IsGiven next row.id = (omega (arith, some, later), omega arith) in
        let pushed = access.pushed_catalog_role next s.access (admin_of row.id) more (omega arith) refl given role-free in
        access.more_ids (next + 1) counters.next_id with_role (omega (arith, below)) pushed

    module _ (service : PrincipalRoleRow) (there : principal_role_named (codes "service_admin") s.access ≡ Some service) where
      service-known : knows principal_role_id service.id s.access.principal_roles ≡ true
      service-known =
          let roles = s.access.principal_roles in
          let differ = IdsDiffer-rising principal_role_id roles sound.orderly.access.principal_roles.rise in
          let own = found-holds (has_role_name (codes "service_admin")) (λ one. row_of principal_role_id (principal_role_id one) roles ≡ Some one) roles service (each-own principal_role_id roles differ) there in
          sym (is_some-row_of principal_role_id service.id roles) ∙ ap is_some own

      access-sound : IsSoundAccess counters.next_id (access_after service)
      access-sound =
          let high = counters.next_id in
          let some = next_id-some s sound in
          let later = new.later in
          let below = new.below in
          let given : IsGiven high row.id = (omega (arith, some, later), omega (arith, below)) in
          let known = knows-last catalog_role_id (admin_of row.id) s.access.catalog_roles in
          let joined = access.put_join high with_role (admin_join service.id row.id) role-sound service-known known in
          let with_join : AccessRows = record with_role { joins = facts_with join.the_row.coded (admin_join service.id row.id) s.access.joins } in
          let first = admin_grant CatalogManageAccess row.id in
          let granted = access.put_grant high with_join first joined (record { role = known; securable = given; allowed = may_have_access }) in
          let with_grant : AccessRows = record with_join { grants = facts_with grant.the_row.coded first s.access.grants } in
          let filled = access.put_grant high with_grant (admin_grant CatalogManageContent row.id) granted (record { role = known; securable = given; allowed = may_have_content }) in
          subst (λ roles. IsSoundAccess high (record (access_after service) { catalog_roles = roles })) (sym (rows_with-new catalog_role_id (admin_of row.id) s.access.catalog_roles role-unknown)) filled

      tied : AreTied (access_after service) content_after
      tied =
          let later = new.later in
          created_catalog s.access s.content sound.orderly.ties row service there
          (new_ids s.next_id row.id s.content sound.orderly.content later) (new_ids s.next_id (row.id + 1) s.content sound.orderly.content (omega (arith, later)))
          (no-access_id s sound row.id later) (no-access_id s sound (row.id + 1) (omega (arith, later)))

      -- there is room for the rows
      few-joins : fits quantity.Joins (length (access_after service).joins) ≡ true
      few-joins =
          let rows = (access_after service).joins in
          let one = at-most-one join.the_row.coded (admin_join service.id row.id) s.access.joins in
          le-leb (length rows) (bound_of quantity.Joins) (omega (arith, one, ltb-true (length s.access.joins) (bound_of quantity.Joins) new.joins))

      few-grants : fits quantity.Grants (length (access_after service).grants) ≡ true
      few-grants =
          let rows = (access_after service).grants in
          let first = facts_with grant.the_row.coded (admin_grant CatalogManageAccess row.id) s.access.grants in
          let one = at-most-one grant.the_row.coded (admin_grant CatalogManageAccess row.id) s.access.grants in
          let two = at-most-one grant.the_row.coded (admin_grant CatalogManageContent row.id) first in
          le-leb (length rows) (bound_of quantity.Grants) (omega (arith, one, two, ltb-true (length s.access.grants + 1) (bound_of quantity.Grants) new.grants))

      all-fit : Fits (after service)
      all-fit =
          let f = fits-of (counted s counters) (counted-sound s sound counters follows) in
          let catalogs = s.content.catalogs in
          let roles = s.access.catalog_roles in
          let few_principals = fits quantity.Principals (length s.access.principals) in
          let few_roles = fits quantity.PrincipalRoles (length s.access.principal_roles) in
          let few_before = fits quantity.CatalogRoles (length roles) in
          let few_after = fits quantity.CatalogRoles (length (access_after service).catalog_roles) in
          let few_members = fits quantity.Members (length s.access.members) in
          let few_joins = fits quantity.Joins (length (access_after service).joins) in
          let few_grants = fits quantity.Grants (length (access_after service).grants) in
          let holders = and_parts few_principals (few_roles && few_before) f.holders in
          let members = (and_parts few_members (fits quantity.Joins (length s.access.joins) && fits quantity.Grants (length s.access.grants)) f.facts).0 in
          let more_roles = few-with catalog_role_id (admin_of row.id) roles (bound_of quantity.CatalogRoles) role-unknown new.roles in
          record {
            parts = (few-with catalog_id row catalogs (bound_of quantity.Catalogs) unknown new.catalogs, f.parts.1);
            holders = and_from few_principals (few_roles && few_after) holders.0 (and_from few_roles few_after (and_parts few_roles few_before holders.1).0 more_roles);
            facts = and_from few_members (few_joins && few_grants) members (and_from few_joins few_grants few-joins few-grants);
            counters = f.counters;
            numbers = (all-with catalog_id row catalogs catalog_fits f.numbers.0 new.fits_by_itself, f.numbers.1);
          }

      created : IsSound (after service)
      created =
          let base = counted-sound s sound counters follows in
          record {
            orderly = record {
              access = access-sound;
              content = content-sound;
              ties = tied;
              tokens = base.orderly.tokens;
              tokens_fit = base.orderly.tokens_fit;
              time_bound = base.orderly.time_bound;
              charged_bound = base.orderly.charged_bound;
            };
            within = within-of (after service) all-fit;
          }

  module _ (role : CatalogRoleRow) (to : JoinRow) (first second : GrantRow) where
    abbrev SoundWith : Type 0
    SoundWith =
        IsSound (changed (changed (changed (changed (changed (counted s counters) (PutCatalog row)) (PutCatalogRole role)) (PutJoin to)) (PutGrant first)) (PutGrant second))

    -- what the tests tell of the other rows
    record AreItsOwn (service : PrincipalRoleRow) : Type 0 where
      role_is : role ≡ admin_of row.id
      join_is : to ≡ admin_join service.id row.id
      first_is : first ≡ admin_grant CatalogManageAccess row.id
      second_is : second ≡ admin_grant CatalogManageContent row.id

    own-sound : IsNew → (service : PrincipalRoleRow) → principal_role_named (codes "service_admin") s.access ≡ Some service → AreItsOwn service → SoundWith
    own-sound new service there own =
        subst IsSound
        (λ i. changed (changed (changed (changed (changed (counted s counters) (PutCatalog row)) (PutCatalogRole (sym own.role_is i))) (PutJoin (sym own.join_is i))) (PutGrant (sym own.first_is i))) (PutGrant (sym own.second_is i)))
        (created new service there)

    -- the tests, each by itself
    record Passes : Type 0 where
      catalog : is_catalog_new s counters row ≡ true
      admin : is_admin_new s counters row.id role ≡ true
      joined : is_join_of (principal_role_named (codes "service_admin") s.access) role.id to ≡ true
      few_joins : nat_lt (length s.access.joins) (bound_of quantity.Joins) ≡ true
      accesses : is_own_grant CatalogManageAccess role first ≡ true
      contents : is_own_grant CatalogManageContent role second ≡ true
      few_grants : nat_lt (length s.access.grants + 1) (bound_of quantity.Grants) ≡ true

    passes-told : may_create_catalog s counters row role to first second ≡ true → Passes
    passes-told may =
        let admin = is_admin_new s counters row.id role in
        let joins = is_join_new s role.id to in
        let grants = are_grants_new s role first second in
        let few_joins = nat_lt (length s.access.joins) (bound_of quantity.Joins) in
        let few_grants = nat_lt (length s.access.grants + 1) (bound_of quantity.Grants) in
        let parts = and_parts (is_catalog_new s counters row) (admin && (joins && grants)) may in
        let rest = and_parts admin (joins && grants) parts.1 in
        let facts = and_parts joins grants rest.1 in
        let joined = and_parts (is_join_of (principal_role_named (codes "service_admin") s.access) role.id to) few_joins facts.0 in
        let accesses = and_parts (is_own_grant CatalogManageAccess role first) (is_own_grant CatalogManageContent role second && few_grants) facts.1 in
        let contents = and_parts (is_own_grant CatalogManageContent role second) few_grants accesses.1 in
        record {
          catalog = parts.0;
          admin = rest.0;
          joined = joined.0;
          few_joins = joined.1;
          accesses = accesses.0;
          contents = contents.0;
          few_grants = contents.1;
        }

    module _ (passes : Passes) where
      -- the role's id, its catalogue and its name
      record IsAdmin : Type 0 where
        below : role.id < counters.next_id
        few : nat_lt (length s.access.catalog_roles) (bound_of quantity.CatalogRoles) ≡ true
        id_is : role.id ≡ row.id + 1
        catalog_is : role.catalog ≡ row.id
        name_is : role.name ≡ codes "catalog_admin"

      admin-told : IsAdmin
      admin-told =
          let few = nat_lt (length s.access.catalog_roles) (bound_of quantity.CatalogRoles) in
          let next = is_next row.id role.id in
          let of = nat_eq role.catalog row.id in
          let named = bytes_eq (codes "catalog_admin") role.name in
          let parts = and_parts (is_new_id s counters role.id) (is_admin row.id role && few) passes.admin in
          let second_part = and_parts (is_admin row.id role) few parts.1 in
          let by_itself = and_parts next (of && named) second_part.0 in
          let last = and_parts of named by_itself.1 in
          record {
            below = (new-id s counters role.id parts.0).1;
            few = second_part.1;
            id_is = eqb-true role.id (row.id + 1) by_itself.0;
            catalog_is = eqb-true role.catalog row.id last.0;
            name_is = sym ((bytes_eq-Decides (codes "catalog_admin") role.name).0 last.1);
          }

      new-told : IsNew
      new-told =
          let free = is_none (catalog_named row.name s.content) in
          let few = nat_lt (length s.content.catalogs) (bound_of quantity.Catalogs) in
          let parts = and_parts (is_new_id s counters row.id) (free && (few && catalog_fits row)) passes.catalog in
          let second_part = and_parts free (few && catalog_fits row) parts.1 in
          let last = and_parts few (catalog_fits row) second_part.1 in
          let below = admin-told.below in
          let is = admin-told.id_is in
          record {
            later = (new-id s counters row.id parts.0).0;
            below = omega (arith, below, is);
            free = none-told (catalog_named row.name s.content) second_part.0;
            fits_by_itself = last.1;
            catalogs = last.0;
            roles = admin-told.few;
            joins = passes.few_joins;
            grants = passes.few_grants;
          }

      own-told : (service : PrincipalRoleRow) → is_join_of (Some service) role.id to ≡ true → AreItsOwn service
      own-told service joined =
          let ends = and_parts (nat_eq to.principal_role service.id) (nat_eq to.catalog_role role.id) joined in
          let into = eqb-true to.catalog_role role.id ends.1 ∙ admin-told.id_is in
          record {
            role_is = λ i. record { id = admin-told.id_is i; catalog = admin-told.catalog_is i; name = admin-told.name_is i };
            join_is = λ i. record { principal_role = eqb-true to.principal_role service.id ends.0 i; catalog_role = into i };
            first_is = same-true grant.the_row.coded first (own_grant CatalogManageAccess role) passes.accesses ∙ (λ i. record { catalog_role = admin-told.id_is i; privilege = CatalogManageAccess; securable = securable.Catalog (admin-told.catalog_is i) });
            second_is = same-true grant.the_row.coded second (own_grant CatalogManageContent role) passes.contents ∙ (λ i. record { catalog_role = admin-told.id_is i; privilege = CatalogManageContent; securable = securable.Catalog (admin-told.catalog_is i) });
          }

      told-sound : SoundWith
      told-sound = by (principal_role_named (codes "service_admin") s.access) refl passes.joined
        where
          by : (found : Option PrincipalRoleRow) → principal_role_named (codes "service_admin") s.access ≡ found → is_join_of found role.id to ≡ true → SoundWith
          by None none joined = absurd (true≢false (sym joined))
          by (Some service) there joined = own-sound new-told service there (own-told service joined)

    pub created_catalog-sound : may_create_catalog s counters row role to first second ≡ true → SoundWith
    created_catalog-sound may = told-sound (passes-told may)

-- five items are all of those of which there are five
module _ {X : Type 0} where
  pub five-items : (xs : List X) (u v x y z : X) → 5 ≤ length xs → length xs < 6 → u ≡ get_or xs 0 u → v ≡ get_or xs 1 v → x ≡ get_or xs 2 x → y ≡ get_or xs 3 y → z ≡ get_or xs 4 z
      → xs ≡ u ∷ v ∷ x ∷ y ∷ z ∷ []
  five-items [] u v x y z some few first second third fourth fifth = absurd (omega (arith, some))
  five-items (a ∷ []) u v x y z some few first second third fourth fifth = absurd (omega (arith, some))
  five-items (a ∷ b ∷ []) u v x y z some few first second third fourth fifth = absurd (omega (arith, some))
  five-items (a ∷ b ∷ c ∷ []) u v x y z some few first second third fourth fifth = absurd (omega (arith, some))
  five-items (a ∷ b ∷ c ∷ d ∷ []) u v x y z some few first second third fourth fifth = absurd (omega (arith, some))
  five-items (a ∷ b ∷ c ∷ d ∷ e ∷ []) u v x y z some few first second third fourth fifth =
      λ i. sym first i ∷ sym second i ∷ sym third i ∷ sym fourth i ∷ sym fifth i ∷ []
  five-items (a ∷ b ∷ c ∷ d ∷ e ∷ g ∷ xs) u v x y z some few first second third fourth fifth =
      absurd (omega (arith, few))

-- Sound rows stay sound once a row is put, replaced or dropped with what names it.
use Rattle.std.proofs.Common.{◌≡◌, ◌≢◌, ℕ, ◌+◌, ◌<◌, ◌≤◌, Bool, true, false, not, cond, ◌&&◌, List, [], ◌∷◌, ◌++◌, map, filter, None, Some, is_some, nat_eq, refl, sym, ap, subst, ◌∙◌, arith, codes, ◌==◌, ◌||◌}
use Rattle.std.specs.Cmp.{IsEquivalence, nat_eq_equiv}
use Rattle.std.specs.Cmp.Lexicographic.{nat_list_eq_equiv, same_text}
use Rattle.std.specs.Coded.{Coded}
use Rattle.std.specs.List.{AllByRecursion, IsDistinct}
use Rattle.std.specs.Str.{bytes_eq}
use Rattle.std.proofs.lemmas.Bool.{and_from, and_parts, eq-eqb, eqb-true, ne_eqb}
use Rattle.std.proofs.lemmas.Map.Keys.{IsDistinct-push}
use Rattle.pol_tables.specs.Facts.{facts_with, facts_without, holds}
use Rattle.pol_tables.specs.Numbered.{IsGiven}
use Rattle.pol_tables.specs.Rising.{KeysBelow}
use Rattle.pol_tables.specs.Same.{same}
use Rattle.pol_tables.specs.Table.{has_id, knows, row_of, rows_without, rows_with}
use Rattle.pol_tables.proofs.ListLemmas.{each-all, each-filter, each-join, each-map, each-push, each-weaken}
use Rattle.pol_tables.proofs.NamedLemmas.{each-own}
use Rattle.pol_tables.proofs.NumberedLemmas.{AreNumbered-filter, AreNumbered-map, AreNumbered-more, AreNumbered-push, below-next}
use Rattle.pol_tables.proofs.RisingLemmas.{IdsDiffer-rising, knows-below}
use Rattle.pol_tables.proofs.SameLemmas.{same-differ}
use Rattle.pol_tables.proofs.TableLemmas.{is_some-row_of, knows-map, rows_with-known, some_is}
use Rattle.pol_access.specs.Access.{AccessRows, catalog_role_id, client_id_of, principal_id, principal_name, principal_role_id, principal_role_name, catalog_role_dropped, catalog_roles_dropped, grants_on_dropped, principal_dropped, principal_role_dropped}
use Rattle.pol_access.specs.Names.{has_catalog_role_name, has_name, has_role_name, principal_named, principal_role_named, same_role_name, catalog_role_named, principal_of_client}
use Rattle.pol_access.specs.Referent.{is_of_catalog, is_role_of}
use Rattle.pol_access.specs.Sound.{AreFacts, IsCatalogRoleOf, IsGrantOf, IsJoinOf, IsMemberOf, IsSecurableGiven, IsSoundAccess}
use Rattle.pol_access.specs.contracts.rows.GrantRow as grant
use Rattle.pol_access.specs.contracts.rows.JoinRow as join
use Rattle.pol_access.specs.contracts.rows.MemberRow as member
use Rattle.pol_access.specs.contracts.securable.Securable as securable_code
use Rattle.pol_access.specs.declared.rows.CatalogRoleRow.{CatalogRoleRow}
use Rattle.pol_access.specs.declared.rows.GrantRow.{GrantRow}
use Rattle.pol_access.specs.declared.rows.JoinRow.{JoinRow}
use Rattle.pol_access.specs.declared.rows.MemberRow.{MemberRow}
use Rattle.pol_access.specs.declared.rows.PrincipalRow.{PrincipalRow}
use Rattle.pol_access.specs.declared.rows.PrincipalRoleRow.{PrincipalRoleRow}
use Rattle.pol_access.specs.declared.securable.Securable.{Securable}
use Rattle.pol_access.specs.declared.securable.Securable.TheVariants as securable
use Rattle.pol_access.proofs.KeptLemmas.{any-fewer, any-push, distinct-kept, distinct-with, each-kept, each-with, find-altered, find-kept, find-push, found-holds, found-passes, goes-last, holds-kept, holds-with, images-kept, knows-kept, knows-others, knows-push, not-true, map-each, names-altered, names-push, none-found}

-- ids that were given out, where more are
pub given-later : (low high id : ℕ) → low ≤ high → IsGiven low id → IsGiven high id
given-later low high id more given = let under : id < high = omega (arith, more, given.1) in (given.0, under)

securable-later : (low high : ℕ) (one : Securable) → low ≤ high → IsSecurableGiven low one → IsSecurableGiven high one
securable-later low high securable.Realm more given = tt
securable-later low high (securable.Catalog id) more given = given-later low high id more given
securable-later low high (securable.Namespace id) more given = given-later low high id more given
securable-later low high (securable.Table id) more given = given-later low high id more given
securable-later low high (securable.View id) more given = given-later low high id more given

-- facts that are put, that a filter keeps, and that are as they should be in another way
module _ {T : Type 0} (code : Coded T) where
  facts-put : (IsOf : T → Type 0) (fact : T) (facts : List T) → AreFacts code IsOf facts → IsOf fact → AreFacts code IsOf (facts_with code fact facts)
  facts-put IsOf fact facts are here =
      record { differ = distinct-with code fact facts are.differ; each = each-with code IsOf fact facts are.each here }

  facts-as : (IsOf Is : T → Type 0) (facts : List T) → ((fact : T) → IsOf fact → Is fact) → AreFacts code IsOf facts → AreFacts code Is facts
  facts-as IsOf Is facts so are = record { differ = are.differ; each = each-weaken IsOf Is facts so are.each }

  facts-kept : (IsOf Is : T → Type 0) (keep : T → Bool) (facts : List T) → ((fact : T) → IsOf fact → keep fact ≡ true → Is fact) → AreFacts code IsOf facts → AreFacts code Is (filter keep facts)
  facts-kept IsOf Is keep facts so are =
      record { differ = distinct-kept (same code) keep facts are.differ; each = each-kept IsOf Is keep facts are.each so }

  facts-fewer : (IsOf : T → Type 0) (keep : T → Bool) (facts : List T) → AreFacts code IsOf facts → AreFacts code IsOf (filter keep facts)
  facts-fewer IsOf keep facts are = facts-kept IsOf IsOf keep facts (λ fact is stays. is) are

-- catalogue roles whose ids are still no principal's and no principal role's
roles_as : (next_id bound : ℕ) (a b : List PrincipalRow) (c d : List PrincipalRoleRow) → ((id : ℕ) → id < bound → knows principal_id id a ≡ false → knows principal_id id b ≡ false)
    → ((id : ℕ) → id < bound → knows principal_role_id id c ≡ false → knows principal_role_id id d ≡ false)
    → (rows : List CatalogRoleRow) → KeysBelow catalog_role_id bound rows → AllByRecursion (IsCatalogRoleOf next_id a c) rows → AllByRecursion (IsCatalogRoleOf next_id b d) rows
roles_as next_id bound a b c d principals roles rows below known =
    each-join (λ row. catalog_role_id row < bound) (IsCatalogRoleOf next_id a c) (IsCatalogRoleOf next_id b d) rows (λ row under is. record { no_principal = principals row.id under is.no_principal; no_principal_role = roles row.id under is.no_principal_role; catalog = is.catalog }) below known

-- rows stay sound where more ids are given out
pub more_ids : (low high : ℕ) (access : AccessRows) → low ≤ high → IsSoundAccess low access → IsSoundAccess high access
more_ids low high access more sound = record {
  principals = AreNumbered-more principal_id low high more access.principals sound.principals;
  principal_roles = AreNumbered-more principal_role_id low high more access.principal_roles sound.principal_roles;
  catalog_roles = AreNumbered-more catalog_role_id low high more access.catalog_roles sound.catalog_roles;
  ids_differ = sound.ids_differ;
  names_differ = sound.names_differ;
  client_ids_differ = sound.client_ids_differ;
  role_names_differ = sound.role_names_differ;
  catalog_roles_known = each-weaken (IsCatalogRoleOf low access.principals access.principal_roles) (IsCatalogRoleOf high access.principals access.principal_roles) access.catalog_roles (λ row is. record { no_principal = is.no_principal; no_principal_role = is.no_principal_role; catalog = given-later low high row.catalog more is.catalog }) sound.catalog_roles_known;
  catalog_role_names_differ = sound.catalog_role_names_differ;
  members = sound.members;
  joins = sound.joins;
  grants = facts-as grant.the_row.coded (IsGrantOf low access.catalog_roles) (IsGrantOf high access.catalog_roles) access.grants (λ row is. record { role = is.role; securable = securable-later low high row.securable more is.securable; allowed = is.allowed }) sound.grants;
  root_chain = sound.root_chain;
}

-- a row with the next id goes last
pub new_rows_last : (next_id : ℕ) (access : AccessRows) → IsSoundAccess next_id access
    → ((row : PrincipalRow) → row.id ≡ next_id → rows_with principal_id row access.principals ≡ access.principals ++ row ∷ [])
    × ((row : PrincipalRoleRow) → row.id ≡ next_id → rows_with principal_role_id row access.principal_roles ≡ access.principal_roles ++ row ∷ [])
    × ((row : CatalogRoleRow) → row.id ≡ next_id → rows_with catalog_role_id row access.catalog_roles ≡ access.catalog_roles ++ row ∷ [])
new_rows_last next_id access sound = (
  goes-last principal_id next_id access.principals sound.principals,
  goes-last principal_role_id next_id access.principal_roles sound.principal_roles,
  goes-last catalog_role_id next_id access.catalog_roles sound.catalog_roles,
)

one_more : (n : ℕ) → n ≤ n + 1
one_more n = omega arith

-- an id below the next one is no id of the row that has that one
apart_from : {R : Type 0} (key : R → ℕ) (next_id id : ℕ) (row : R) → key row ≡ next_id → id < next_id → has_id key id row ≡ false
apart_from key next_id id row is under = ne_eqb id (key row) (λ same. omega (arith, under, is, same))

-- a principal with the next id, a new name and a new client id may be pushed
pub pushed_principal : (next_id : ℕ) (access : AccessRows) (row : PrincipalRow) → IsSoundAccess next_id access → 1 ≤ next_id → row.id ≡ next_id
    → principal_named row.name access ≡ None → principal_of_client row.client_id access ≡ None
    → IsSoundAccess (next_id + 1) (record access { principals = access.principals ++ row ∷ [] })
pushed_principal next_id access row sound first is new_name new_client =
    let later = more_ids next_id (next_id + 1) access (one_more next_id) sound in
    let rows = access.principals ++ row ∷ [] in
    record {
      principals = AreNumbered-push principal_id next_id row access.principals first is sound.principals;
      principal_roles = later.principal_roles;
      catalog_roles = later.catalog_roles;
      ids_differ = each-push (λ kept. knows principal_role_id kept.id access.principal_roles ≡ false) access.principals row sound.ids_differ (ap (λ id. knows principal_role_id id access.principal_roles) is ∙ knows-below principal_role_id next_id access.principal_roles (below-next principal_role_id next_id access.principal_roles sound.principal_roles));
      names_differ = names-push principal_name access.principals row sound.names_differ new_name;
      client_ids_differ = names-push client_id_of access.principals row sound.client_ids_differ new_client;
      role_names_differ = later.role_names_differ;
      catalog_roles_known = roles_as (next_id + 1) next_id access.principals rows access.principal_roles access.principal_roles (λ id under unknown. knows-push principal_id id row access.principals ∙ (λ i. unknown i || apart_from principal_id next_id id row is under i)) (λ id under unknown. unknown) access.catalog_roles (below-next catalog_role_id next_id access.catalog_roles sound.catalog_roles) later.catalog_roles_known;
      catalog_role_names_differ = later.catalog_role_names_differ;
      members = facts-as member.the_row.coded (IsMemberOf access.principals access.principal_roles) (IsMemberOf rows access.principal_roles) access.members (λ kept of. record { principal = any-push (has_id principal_id kept.principal) access.principals row of.principal; role = of.role }) sound.members;
      joins = later.joins;
      grants = later.grants;
      root_chain = record { root = sound.root_chain.root; admin = sound.root_chain.admin; root_there = find-push (has_name (codes "root")) access.principals (row ∷ []) sound.root_chain.root sound.root_chain.root_there; admin_there = sound.root_chain.admin_there; member = sound.root_chain.member };
    }

-- a principal role with the next id and a new name may be pushed
pub pushed_principal_role : (next_id : ℕ) (access : AccessRows) (row : PrincipalRoleRow) → IsSoundAccess next_id access → 1 ≤ next_id → row.id ≡ next_id
    → principal_role_named row.name access ≡ None
    → IsSoundAccess (next_id + 1) (record access { principal_roles = access.principal_roles ++ row ∷ [] })
pushed_principal_role next_id access row sound first is new_name =
    let later = more_ids next_id (next_id + 1) access (one_more next_id) sound in
    let rows = access.principal_roles ++ row ∷ [] in
    record {
      principals = later.principals;
      principal_roles = AreNumbered-push principal_role_id next_id row access.principal_roles first is sound.principal_roles;
      catalog_roles = later.catalog_roles;
      ids_differ = each-join (λ kept. principal_id kept < next_id) (λ kept. knows principal_role_id kept.id access.principal_roles ≡ false) (λ kept. knows principal_role_id kept.id rows ≡ false) access.principals (λ kept under unknown. knows-push principal_role_id kept.id row access.principal_roles ∙ (λ i. unknown i || apart_from principal_role_id next_id kept.id row is under i)) (below-next principal_id next_id access.principals sound.principals) sound.ids_differ;
      names_differ = later.names_differ;
      client_ids_differ = later.client_ids_differ;
      role_names_differ = names-push principal_role_name access.principal_roles row sound.role_names_differ new_name;
      catalog_roles_known = roles_as (next_id + 1) next_id access.principals access.principals access.principal_roles rows (λ id under unknown. unknown) (λ id under unknown. knows-push principal_role_id id row access.principal_roles ∙ (λ i. unknown i || apart_from principal_role_id next_id id row is under i)) access.catalog_roles (below-next catalog_role_id next_id access.catalog_roles sound.catalog_roles) later.catalog_roles_known;
      catalog_role_names_differ = later.catalog_role_names_differ;
      members = facts-as member.the_row.coded (IsMemberOf access.principals access.principal_roles) (IsMemberOf access.principals rows) access.members (λ kept of. record { principal = of.principal; role = any-push (has_id principal_role_id kept.role) access.principal_roles row of.role }) sound.members;
      joins = facts-as join.the_row.coded (IsJoinOf access.principal_roles access.catalog_roles) (IsJoinOf rows access.catalog_roles) access.joins (λ kept of. record { principal_role = any-push (has_id principal_role_id kept.principal_role) access.principal_roles row of.principal_role; catalog_role = of.catalog_role }) sound.joins;
      grants = later.grants;
      root_chain = record { root = sound.root_chain.root; admin = sound.root_chain.admin; root_there = sound.root_chain.root_there; admin_there = find-push (has_role_name (codes "service_admin")) access.principal_roles (row ∷ []) sound.root_chain.admin sound.root_chain.admin_there; member = sound.root_chain.member };
    }

same_role_name-equiv : IsEquivalence same_role_name
same_role_name-equiv = record {
  refl = λ x. and_from (nat_eq x.catalog x.catalog) (bytes_eq x.name x.name) (eq-eqb x.catalog x.catalog refl) (nat_list_eq_equiv.refl x.name);
  symm = λ x y i. nat_eq_equiv.symm y.catalog x.catalog i && nat_list_eq_equiv.symm x.name y.name i;
  congr = λ x y z is. alike x y z (and_parts (nat_eq y.catalog x.catalog) (bytes_eq x.name y.name) is);
}
  where
    alike : (x y z : CatalogRoleRow) → (nat_eq y.catalog x.catalog ≡ true) × (bytes_eq x.name y.name ≡ true) → same_role_name x z ≡ same_role_name y z
    alike x y z both = λ i. nat_eq z.catalog (sym (eqb-true y.catalog x.catalog both.0) i) && nat_list_eq_equiv.congr x.name y.name z.name both.1 i

-- a catalogue role with the next id, a catalogue whose id was given out, and a name that is new there may be pushed
pub pushed_catalog_role : (next_id : ℕ) (access : AccessRows) (row : CatalogRoleRow) → IsSoundAccess next_id access → 1 ≤ next_id → row.id ≡ next_id
    → IsGiven next_id row.catalog → catalog_role_named row.catalog row.name access ≡ None
    → IsSoundAccess (next_id + 1) (record access { catalog_roles = access.catalog_roles ++ row ∷ [] })
pushed_catalog_role next_id access row sound first is given new_name =
    let later = more_ids next_id (next_id + 1) access (one_more next_id) sound in
    let rows = access.catalog_roles ++ row ∷ [] in
    record {
      principals = later.principals;
      principal_roles = later.principal_roles;
      catalog_roles = AreNumbered-push catalog_role_id next_id row access.catalog_roles first is sound.catalog_roles;
      ids_differ = later.ids_differ;
      names_differ = later.names_differ;
      client_ids_differ = later.client_ids_differ;
      role_names_differ = later.role_names_differ;
      catalog_roles_known = each-push (IsCatalogRoleOf (next_id + 1) access.principals access.principal_roles) access.catalog_roles row later.catalog_roles_known (record { no_principal = ap (λ id. knows principal_id id access.principals) is ∙ knows-below principal_id next_id access.principals (below-next principal_id next_id access.principals sound.principals); no_principal_role = ap (λ id. knows principal_role_id id access.principal_roles) is ∙ knows-below principal_role_id next_id access.principal_roles (below-next principal_role_id next_id access.principal_roles sound.principal_roles); catalog = given-later next_id (next_id + 1) row.catalog (one_more next_id) given });
      catalog_role_names_differ = IsDistinct-push same_role_name-equiv access.catalog_roles row sound.catalog_role_names_differ (none-found (has_catalog_role_name row.catalog row.name) access.catalog_roles new_name);
      members = later.members;
      joins = facts-as join.the_row.coded (IsJoinOf access.principal_roles access.catalog_roles) (IsJoinOf access.principal_roles rows) access.joins (λ kept of. record { principal_role = of.principal_role; catalog_role = any-push (has_id catalog_role_id kept.catalog_role) access.catalog_roles row of.catalog_role }) sound.joins;
      grants = facts-as grant.the_row.coded (IsGrantOf (next_id + 1) access.catalog_roles) (IsGrantOf (next_id + 1) rows) access.grants (λ kept of. record { role = any-push (has_id catalog_role_id kept.catalog_role) access.catalog_roles row of.role; securable = of.securable; allowed = of.allowed }) later.grants;
      root_chain = later.root_chain;
    }

-- principals may be altered where they keep their ids, names and client ids
altered_principals : (next_id : ℕ) (access : AccessRows) (alter : PrincipalRow → PrincipalRow) → ((row : PrincipalRow) → (alter row).id ≡ row.id) → ((row : PrincipalRow) → (alter row).name ≡ row.name) → ((row : PrincipalRow) → (alter row).client_id ≡ row.client_id)
    → IsSoundAccess next_id access → IsSoundAccess next_id (record access { principals = map alter access.principals })
altered_principals next_id access alter ids names clients sound = record {
  principals = AreNumbered-map principal_id next_id alter ids access.principals sound.principals;
  principal_roles = sound.principal_roles;
  catalog_roles = sound.catalog_roles;
  ids_differ = each-map (λ kept. knows principal_role_id kept.id access.principal_roles ≡ false) alter access.principals (each-weaken (λ kept. knows principal_role_id kept.id access.principal_roles ≡ false) (λ kept. knows principal_role_id (alter kept).id access.principal_roles ≡ false) access.principals (λ kept unknown. ap (λ id. knows principal_role_id id access.principal_roles) (ids kept) ∙ unknown) sound.ids_differ);
  names_differ = subst (IsDistinct bytes_eq) (sym (names-altered principal_name alter names access.principals)) sound.names_differ;
  client_ids_differ = subst (IsDistinct bytes_eq) (sym (names-altered client_id_of alter clients access.principals)) sound.client_ids_differ;
  role_names_differ = sound.role_names_differ;
  catalog_roles_known = roles_as next_id next_id access.principals (map alter access.principals) access.principal_roles access.principal_roles (λ id under unknown. knows-map principal_id alter ids id access.principals ∙ unknown) (λ id under unknown. unknown) access.catalog_roles (below-next catalog_role_id next_id access.catalog_roles sound.catalog_roles) sound.catalog_roles_known;
  catalog_role_names_differ = sound.catalog_role_names_differ;
  members = facts-as member.the_row.coded (IsMemberOf access.principals access.principal_roles) (IsMemberOf (map alter access.principals) access.principal_roles) access.members (λ kept of. record { principal = knows-map principal_id alter ids kept.principal access.principals ∙ of.principal; role = of.role }) sound.members;
  joins = sound.joins;
  grants = sound.grants;
  root_chain = record { root = alter sound.root_chain.root; admin = sound.root_chain.admin; root_there = find-altered (has_name (codes "root")) alter (λ kept. ap (bytes_eq (codes "root")) (names kept)) access.principals sound.root_chain.root sound.root_chain.root_there; admin_there = sound.root_chain.admin_there; member = ap (λ id. holds member.the_row.coded (record { principal = id; role = sound.root_chain.admin.id }) access.members) (ids sound.root_chain.root) ∙ sound.root_chain.member };
}

-- a row of the id, name and client id of one that is there differs from it in its digest alone
module _ (row : PrincipalRow) where
  abbrev with_digest : Bool → PrincipalRow → PrincipalRow
  with_digest has kept = record { id = kept.id; name = kept.name; client_id = kept.client_id; digest = cond has row.digest kept.digest }

  abbrev alter_one : PrincipalRow → PrincipalRow
  alter_one kept = with_digest (has_id principal_id row.id kept) kept

  is_altered : (old : PrincipalRow) (rows : List PrincipalRow) → row_of principal_id row.id rows ≡ Some old → row.name ≡ old.name → row.client_id ≡ old.client_id
      → (kept : PrincipalRow) → row_of principal_id kept.id rows ≡ Some kept → (has : Bool) → has_id principal_id row.id kept ≡ has → cond has row kept ≡ with_digest has kept
  is_altered old rows found names clients kept own false apart = refl
  is_altered old rows found names clients kept own true has =
      let ids = eqb-true row.id kept.id has in
      let is : old ≡ kept = some_is old kept (sym found ∙ ap (λ id. row_of principal_id id rows) ids ∙ own) in
      λ i. record {
        id = ids i;
        name = (names ∙ ap (λ kept. kept.name) is) i;
        client_id = (clients ∙ ap (λ kept. kept.client_id) is) i;
        digest = row.digest;
      }

-- a principal may be replaced by a row of its id, name and client id
pub replaced_principal : (next_id : ℕ) (access : AccessRows) (old row : PrincipalRow) → IsSoundAccess next_id access → row_of principal_id row.id access.principals ≡ Some old
    → row.name ≡ old.name → row.client_id ≡ old.client_id
    → IsSoundAccess next_id (record access { principals = rows_with principal_id row access.principals })
replaced_principal next_id access old row sound found names clients =
    let rows = access.principals in
    let known : knows principal_id row.id rows ≡ true = sym (is_some-row_of principal_id row.id rows) ∙ ap is_some found in
    let owns = each-own principal_id rows (IdsDiffer-rising principal_id rows sound.principals.rise) in
    let alike = map-each (λ kept. cond (has_id principal_id row.id kept) row kept) (alter_one row) rows (each-weaken (λ kept. row_of principal_id kept.id rows ≡ Some kept) (λ kept. cond (has_id principal_id row.id kept) row kept ≡ alter_one row kept) rows (λ kept own. is_altered row old rows found names clients kept own (has_id principal_id row.id kept) refl) owns) in
    subst (λ after. IsSoundAccess next_id (record access { principals = after })) (sym (rows_with-known principal_id row rows known ∙ alike)) (altered_principals next_id access (alter_one row) (λ kept. refl) (λ kept. refl) (λ kept. refl) sound)

-- members, joins and grants may be others that are as they should be, where root's membership is among them
module _ (next_id : ℕ) (access : AccessRows) (sound : IsSoundAccess next_id access) where
  with_members : (members : List MemberRow) → AreFacts member.the_row.coded (IsMemberOf access.principals access.principal_roles) members
      → holds member.the_row.coded (record { principal = sound.root_chain.root.id; role = sound.root_chain.admin.id }) members ≡ true → IsSoundAccess next_id (record access { members = members })
  with_members members are there = record {
    principals = sound.principals;
    principal_roles = sound.principal_roles;
    catalog_roles = sound.catalog_roles;
    ids_differ = sound.ids_differ;
    names_differ = sound.names_differ;
    client_ids_differ = sound.client_ids_differ;
    role_names_differ = sound.role_names_differ;
    catalog_roles_known = sound.catalog_roles_known;
    catalog_role_names_differ = sound.catalog_role_names_differ;
    members = are;
    joins = sound.joins;
    grants = sound.grants;
    root_chain = record { root = sound.root_chain.root; admin = sound.root_chain.admin; root_there = sound.root_chain.root_there; admin_there = sound.root_chain.admin_there; member = there };
  }

  with_joins : (joins : List JoinRow) → AreFacts join.the_row.coded (IsJoinOf access.principal_roles access.catalog_roles) joins → IsSoundAccess next_id (record access { joins = joins })
  with_joins joins are = record {
    principals = sound.principals;
    principal_roles = sound.principal_roles;
    catalog_roles = sound.catalog_roles;
    ids_differ = sound.ids_differ;
    names_differ = sound.names_differ;
    client_ids_differ = sound.client_ids_differ;
    role_names_differ = sound.role_names_differ;
    catalog_roles_known = sound.catalog_roles_known;
    catalog_role_names_differ = sound.catalog_role_names_differ;
    members = sound.members;
    joins = are;
    grants = sound.grants;
    root_chain = sound.root_chain;
  }

  with_grants : (grants : List GrantRow) → AreFacts grant.the_row.coded (IsGrantOf next_id access.catalog_roles) grants → IsSoundAccess next_id (record access { grants = grants })
  with_grants grants are = record {
    principals = sound.principals;
    principal_roles = sound.principal_roles;
    catalog_roles = sound.catalog_roles;
    ids_differ = sound.ids_differ;
    names_differ = sound.names_differ;
    client_ids_differ = sound.client_ids_differ;
    role_names_differ = sound.role_names_differ;
    catalog_roles_known = sound.catalog_roles_known;
    catalog_role_names_differ = sound.catalog_role_names_differ;
    members = sound.members;
    joins = sound.joins;
    grants = are;
    root_chain = sound.root_chain;
  }

  members_kept : (keep : MemberRow → Bool) → keep (record { principal = sound.root_chain.root.id; role = sound.root_chain.admin.id }) ≡ true → IsSoundAccess next_id (record access { members = filter keep access.members })
  members_kept keep stays =
      with_members (filter keep access.members) (facts-fewer member.the_row.coded (IsMemberOf access.principals access.principal_roles) keep access.members sound.members)
      (holds-kept member.the_row.coded keep (record { principal = sound.root_chain.root.id; role = sound.root_chain.admin.id }) access.members sound.root_chain.member stays)

  joins_kept : (keep : JoinRow → Bool) → IsSoundAccess next_id (record access { joins = filter keep access.joins })
  joins_kept keep =
      with_joins (filter keep access.joins) (facts-fewer join.the_row.coded (IsJoinOf access.principal_roles access.catalog_roles) keep access.joins sound.joins)

  grants_kept : (keep : GrantRow → Bool) → IsSoundAccess next_id (record access { grants = filter keep access.grants })
  grants_kept keep =
      with_grants (filter keep access.grants) (facts-fewer grant.the_row.coded (IsGrantOf next_id access.catalog_roles) keep access.grants sound.grants)

  -- principals may be dropped where root stays and no member names them, and roles alike
  principals_kept : (keep : PrincipalRow → Bool) → keep sound.root_chain.root ≡ true → AreFacts member.the_row.coded (IsMemberOf (filter keep access.principals) access.principal_roles) access.members
      → IsSoundAccess next_id (record access { principals = filter keep access.principals })
  principals_kept keep stays members = record {
    principals = AreNumbered-filter principal_id next_id keep access.principals sound.principals;
    principal_roles = sound.principal_roles;
    catalog_roles = sound.catalog_roles;
    ids_differ = each-filter (λ row. knows principal_role_id row.id access.principal_roles ≡ false) keep access.principals sound.ids_differ;
    names_differ = images-kept bytes_eq principal_name keep access.principals sound.names_differ;
    client_ids_differ = images-kept bytes_eq client_id_of keep access.principals sound.client_ids_differ;
    role_names_differ = sound.role_names_differ;
    catalog_roles_known = roles_as next_id next_id access.principals (filter keep access.principals) access.principal_roles access.principal_roles (λ id under unknown. any-fewer (has_id principal_id id) keep access.principals unknown) (λ id under unknown. unknown) access.catalog_roles (below-next catalog_role_id next_id access.catalog_roles sound.catalog_roles) sound.catalog_roles_known;
    catalog_role_names_differ = sound.catalog_role_names_differ;
    members = members;
    joins = sound.joins;
    grants = sound.grants;
    root_chain = record { root = sound.root_chain.root; admin = sound.root_chain.admin; root_there = find-kept (has_name (codes "root")) keep access.principals sound.root_chain.root sound.root_chain.root_there stays; admin_there = sound.root_chain.admin_there; member = sound.root_chain.member };
  }

  principal_roles_kept : (keep : PrincipalRoleRow → Bool) → keep sound.root_chain.admin ≡ true → AreFacts member.the_row.coded (IsMemberOf access.principals (filter keep access.principal_roles)) access.members
      → AreFacts join.the_row.coded (IsJoinOf (filter keep access.principal_roles) access.catalog_roles) access.joins → IsSoundAccess next_id (record access { principal_roles = filter keep access.principal_roles })
  principal_roles_kept keep stays members joins = record {
    principals = sound.principals;
    principal_roles = AreNumbered-filter principal_role_id next_id keep access.principal_roles sound.principal_roles;
    catalog_roles = sound.catalog_roles;
    ids_differ = each-weaken (λ row. knows principal_role_id row.id access.principal_roles ≡ false) (λ row. knows principal_role_id row.id (filter keep access.principal_roles) ≡ false) access.principals (λ row unknown. any-fewer (has_id principal_role_id row.id) keep access.principal_roles unknown) sound.ids_differ;
    names_differ = sound.names_differ;
    client_ids_differ = sound.client_ids_differ;
    role_names_differ = images-kept bytes_eq principal_role_name keep access.principal_roles sound.role_names_differ;
    catalog_roles_known = roles_as next_id next_id access.principals access.principals access.principal_roles (filter keep access.principal_roles) (λ id under unknown. unknown) (λ id under unknown. any-fewer (has_id principal_role_id id) keep access.principal_roles unknown) access.catalog_roles (below-next catalog_role_id next_id access.catalog_roles sound.catalog_roles) sound.catalog_roles_known;
    catalog_role_names_differ = sound.catalog_role_names_differ;
    members = members;
    joins = joins;
    grants = sound.grants;
    root_chain = record { root = sound.root_chain.root; admin = sound.root_chain.admin; root_there = sound.root_chain.root_there; admin_there = find-kept (has_role_name (codes "service_admin")) keep access.principal_roles sound.root_chain.admin sound.root_chain.admin_there stays; member = sound.root_chain.member };
  }

  catalog_roles_kept : (keep : CatalogRoleRow → Bool) → AreFacts join.the_row.coded (IsJoinOf access.principal_roles (filter keep access.catalog_roles)) access.joins
      → AreFacts grant.the_row.coded (IsGrantOf next_id (filter keep access.catalog_roles)) access.grants → IsSoundAccess next_id (record access { catalog_roles = filter keep access.catalog_roles })
  catalog_roles_kept keep joins grants = record {
    principals = sound.principals;
    principal_roles = sound.principal_roles;
    catalog_roles = AreNumbered-filter catalog_role_id next_id keep access.catalog_roles sound.catalog_roles;
    ids_differ = sound.ids_differ;
    names_differ = sound.names_differ;
    client_ids_differ = sound.client_ids_differ;
    role_names_differ = sound.role_names_differ;
    catalog_roles_known = each-filter (IsCatalogRoleOf next_id access.principals access.principal_roles) keep access.catalog_roles sound.catalog_roles_known;
    catalog_role_names_differ = distinct-kept same_role_name keep access.catalog_roles sound.catalog_role_names_differ;
    members = sound.members;
    joins = joins;
    grants = grants;
    root_chain = sound.root_chain;
  }

-- root and `service_admin` are the rows of their ids and have their names
module _ (next_id : ℕ) (access : AccessRows) (sound : IsSoundAccess next_id access) where
  other_than_root : (row : PrincipalRow) → row_of principal_id row.id access.principals ≡ Some row → (row.name ≡ codes "root" → ⊥) → (root : PrincipalRow) → principal_named (codes "root") access ≡ Some root → row.id ≡ root.id → ⊥
  other_than_root row found other root there same =
      let own = found-holds (has_name (codes "root")) (λ kept. row_of principal_id kept.id access.principals ≡ Some kept) access.principals root (each-own principal_id access.principals (IdsDiffer-rising principal_id access.principals sound.principals.rise)) there in
      let is : row ≡ root = some_is row root (sym found ∙ ap (λ id. row_of principal_id id access.principals) same ∙ own) in
      other (ap principal_name is ∙ sym (same_text (codes "root") root.name (sym (found-passes (has_name (codes "root")) access.principals root there))))

  other_than_admin : (row : PrincipalRoleRow) → row_of principal_role_id row.id access.principal_roles ≡ Some row → (row.name ≡ codes "service_admin" → ⊥) → (admin : PrincipalRoleRow) → principal_role_named (codes "service_admin") access ≡ Some admin → row.id ≡ admin.id → ⊥
  other_than_admin row found other admin there same =
      let own = found-holds (has_role_name (codes "service_admin")) (λ kept. row_of principal_role_id kept.id access.principal_roles ≡ Some kept) access.principal_roles admin (each-own principal_role_id access.principal_roles (IdsDiffer-rising principal_role_id access.principal_roles sound.principal_roles.rise)) there in
      let is : row ≡ admin = some_is row admin (sym found ∙ ap (λ id. row_of principal_role_id id access.principal_roles) same ∙ own) in
      other (ap principal_role_name is ∙ sym (same_text (codes "service_admin") admin.name (sym (found-passes (has_role_name (codes "service_admin")) access.principal_roles admin there))))

-- numbers that differ, either way round
differ-test : (left right : ℕ) → (left ≡ right → ⊥) → not (nat_eq left right) ≡ true
differ-test left right apart = ap not (ne_eqb left right apart)

-- a principal that isn't `root` may be dropped with its memberships
pub dropped_principal : (next_id : ℕ) (access : AccessRows) (row : PrincipalRow) → IsSoundAccess next_id access → row_of principal_id row.id access.principals ≡ Some row
    → row.name ≢ codes "root" → IsSoundAccess next_id (principal_dropped row.id access)
unfolding rows_without
dropped_principal next_id access row sound found other =
    let apart = other_than_root next_id access sound row found other in
    let without : List MemberRow = filter (λ kept. not (kept.principal == row.id)) access.members in
    let cut = members_kept next_id access sound (λ kept. not (kept.principal == row.id)) (differ-test sound.root_chain.root.id row.id (λ same. apart sound.root_chain.root sound.root_chain.root_there (sym same))) in
    principals_kept next_id (record access { members = without }) cut (λ kept. not (has_id principal_id row.id kept)) (differ-test row.id cut.root_chain.root.id (apart cut.root_chain.root cut.root_chain.root_there))
    (facts-kept member.the_row.coded (IsMemberOf access.principals access.principal_roles) (IsMemberOf (filter (λ one. not (has_id principal_id row.id one)) access.principals) access.principal_roles) (λ kept. not (kept.principal == row.id)) access.members (λ kept of stays. record { principal = knows-others principal_id kept.principal row.id access.principals stays of.principal; role = of.role }) sound.members)

-- a principal role that isn't `service_admin` may be dropped with its members and joins
pub dropped_principal_role : (next_id : ℕ) (access : AccessRows) (row : PrincipalRoleRow) → IsSoundAccess next_id access → row_of principal_role_id row.id access.principal_roles ≡ Some row
    → row.name ≢ codes "service_admin" → IsSoundAccess next_id (principal_role_dropped row.id access)
unfolding rows_without
dropped_principal_role next_id access row sound found other =
    let apart = other_than_admin next_id access sound row found other in
    let others : List PrincipalRoleRow = filter (λ one. not (has_id principal_role_id row.id one)) access.principal_roles in
    let members : List MemberRow = filter (λ kept. not (kept.role == row.id)) access.members in
    let joins : List JoinRow = filter (λ kept. not (kept.principal_role == row.id)) access.joins in
    let first = members_kept next_id access sound (λ kept. not (kept.role == row.id)) (differ-test sound.root_chain.admin.id row.id (λ same. apart sound.root_chain.admin sound.root_chain.admin_there (sym same))) in
    let cut = joins_kept next_id (record access { members = members }) first (λ kept. not (kept.principal_role == row.id)) in
    principal_roles_kept next_id (record access { members = members; joins = joins }) cut (λ kept. not (has_id principal_role_id row.id kept)) (differ-test row.id cut.root_chain.admin.id (apart cut.root_chain.admin cut.root_chain.admin_there))
    (facts-kept member.the_row.coded (IsMemberOf access.principals access.principal_roles) (IsMemberOf access.principals others) (λ kept. not (kept.role == row.id)) access.members (λ kept of stays. record { principal = of.principal; role = knows-others principal_role_id kept.role row.id access.principal_roles stays of.role }) sound.members)
    (facts-kept join.the_row.coded (IsJoinOf access.principal_roles access.catalog_roles) (IsJoinOf others access.catalog_roles) (λ kept. not (kept.principal_role == row.id)) access.joins (λ kept of stays. record { principal_role = knows-others principal_role_id kept.principal_role row.id access.principal_roles stays of.principal_role; catalog_role = of.catalog_role }) sound.joins)

-- catalogue roles may be dropped with the joins and grants that name them
roles_gone : (next_id : ℕ) (access : AccessRows) (gone : ℕ → Bool) (keep : CatalogRoleRow → Bool) → IsSoundAccess next_id access → AllByRecursion (λ row. gone row.id ≡ false → keep row ≡ true) access.catalog_roles
    → IsSoundAccess next_id (record access { catalog_roles = filter keep access.catalog_roles; joins = filter (λ row. not (gone row.catalog_role)) access.joins; grants = filter (λ row. not (gone row.catalog_role)) access.grants })
roles_gone next_id access gone keep sound agree =
    let others : List CatalogRoleRow = filter keep access.catalog_roles in
    let joins : List JoinRow = filter (λ row. not (gone row.catalog_role)) access.joins in
    let grants : List GrantRow = filter (λ row. not (gone row.catalog_role)) access.grants in
    let first = joins_kept next_id access sound (λ row. not (gone row.catalog_role)) in
    let cut = grants_kept next_id (record access { joins = joins }) first (λ row. not (gone row.catalog_role)) in
    catalog_roles_kept next_id (record access { joins = joins; grants = grants }) cut keep
    (facts-kept join.the_row.coded (IsJoinOf access.principal_roles access.catalog_roles) (IsJoinOf access.principal_roles others) (λ row. not (gone row.catalog_role)) access.joins (λ row of stays. record { principal_role = of.principal_role; catalog_role = still row.catalog_role of.catalog_role stays }) sound.joins)
    (facts-kept grant.the_row.coded (IsGrantOf next_id access.catalog_roles) (IsGrantOf next_id others) (λ row. not (gone row.catalog_role)) access.grants (λ row of stays. record { role = still row.catalog_role of.role stays; securable = of.securable; allowed = of.allowed }) sound.grants)
  where
    still : (id : ℕ) → knows catalog_role_id id access.catalog_roles ≡ true → not (gone id) ≡ true → knows catalog_role_id id (filter keep access.catalog_roles) ≡ true
    still id there stays =
        knows-kept catalog_role_id id keep access.catalog_roles (each-weaken (λ row. gone row.id ≡ false → keep row ≡ true) (λ row. catalog_role_id row ≡ id → keep row ≡ true) access.catalog_roles (λ row keeps is. keeps (ap gone is ∙ not-true (gone id) stays)) agree) there

-- a catalogue role may be dropped with its joins and grants, and so may all roles of a catalogue
pub dropped_catalog_roles : (next_id id : ℕ) (access : AccessRows) → IsSoundAccess next_id access
    → IsSoundAccess next_id (catalog_role_dropped id access) × IsSoundAccess next_id (catalog_roles_dropped id access)
unfolding rows_without
dropped_catalog_roles next_id id access sound = (
  roles_gone next_id access (λ role. role == id) (λ row. not (has_id catalog_role_id id row)) sound (each-all (λ row. nat_eq row.id id ≡ false → not (nat_eq id row.id) ≡ true) access.catalog_roles (λ row apart. ap not (nat_eq_equiv.symm id row.id ∙ apart))),
  roles_gone next_id access (is_role_of access.catalog_roles id) (λ row. not (row.catalog == id)) sound (each-weaken (λ row. row_of catalog_role_id row.id access.catalog_roles ≡ Some row) (λ row. is_role_of access.catalog_roles id row.id ≡ false → not (row.catalog == id) ≡ true) access.catalog_roles (λ row own apart. ap not (sym (ap (is_of_catalog id) own) ∙ apart)) (each-own catalog_role_id access.catalog_roles (IdsDiffer-rising catalog_role_id access.catalog_roles sound.catalog_roles.rise))),
)

-- a member may be put where its principal and its role are there
pub put_member : (next_id : ℕ) (access : AccessRows) (row : MemberRow) → IsSoundAccess next_id access → knows principal_id row.principal access.principals ≡ true
    → knows principal_role_id row.role access.principal_roles ≡ true
    → IsSoundAccess next_id (record access { members = facts_with member.the_row.coded row access.members })
put_member next_id access row sound principal role =
    with_members next_id access sound (facts_with member.the_row.coded row access.members)
    (facts-put member.the_row.coded (IsMemberOf access.principals access.principal_roles) row access.members sound.members (record { principal = principal; role = role }))
    (holds-with member.the_row.coded (record { principal = sound.root_chain.root.id; role = sound.root_chain.admin.id }) row access.members sound.root_chain.member)

-- a member may be dropped that isn't `root` in `service_admin`
pub dropped_member : (next_id : ℕ) (access : AccessRows) (principal : PrincipalRow) (role : PrincipalRoleRow) → IsSoundAccess next_id access
    → row_of principal_id principal.id access.principals ≡ Some principal → row_of principal_role_id role.id access.principal_roles ≡ Some role
    → (principal.name ≡ codes "root" → role.name ≢ codes "service_admin")
    → IsSoundAccess next_id (record access { members = facts_without member.the_row.coded (record { principal = principal.id; role = role.id }) access.members })
unfolding facts_without
dropped_member next_id access principal role sound found there other =
    let gone : MemberRow = record { principal = principal.id; role = role.id } in
    let kept : MemberRow = record { principal = sound.root_chain.root.id; role = sound.root_chain.admin.id } in
    members_kept next_id access sound (λ one. not (same member.the_row.coded gone one))
    (ap not (same-differ member.the_row.coded gone kept (λ is. other_than_root next_id access sound principal found (λ named. other_than_admin next_id access sound role there (other named) sound.root_chain.admin sound.root_chain.admin_there (ap (λ (one : MemberRow). one.role) is)) sound.root_chain.root sound.root_chain.root_there (ap (λ (one : MemberRow). one.principal) is))))

-- a join may be put where its roles are there, and any may be dropped
pub put_join : (next_id : ℕ) (access : AccessRows) (row : JoinRow) → IsSoundAccess next_id access → knows principal_role_id row.principal_role access.principal_roles ≡ true
    → knows catalog_role_id row.catalog_role access.catalog_roles ≡ true
    → IsSoundAccess next_id (record access { joins = facts_with join.the_row.coded row access.joins })
put_join next_id access row sound principal_role catalog_role =
    with_joins next_id access sound (facts_with join.the_row.coded row access.joins)
    (facts-put join.the_row.coded (IsJoinOf access.principal_roles access.catalog_roles) row access.joins sound.joins (record { principal_role = principal_role; catalog_role = catalog_role }))

pub dropped_join : (next_id : ℕ) (access : AccessRows) (row : JoinRow) → IsSoundAccess next_id access
    → IsSoundAccess next_id (record access { joins = facts_without join.the_row.coded row access.joins })
unfolding facts_without
dropped_join next_id access row sound = joins_kept next_id access sound (λ kept. not (same join.the_row.coded row kept))

-- a grant may be put where its role is there, its privilege is allowed and its securable's id was given out, and any may
-- be dropped, also all that are on a securable
pub put_grant : (next_id : ℕ) (access : AccessRows) (row : GrantRow) → IsSoundAccess next_id access → IsGrantOf next_id access.catalog_roles row
    → IsSoundAccess next_id (record access { grants = facts_with grant.the_row.coded row access.grants })
put_grant next_id access row sound of =
    with_grants next_id access sound (facts_with grant.the_row.coded row access.grants)
    (facts-put grant.the_row.coded (IsGrantOf next_id access.catalog_roles) row access.grants sound.grants of)

pub dropped_grants : (next_id : ℕ) (access : AccessRows) → IsSoundAccess next_id access
    → ((row : GrantRow) → IsSoundAccess next_id (record access { grants = facts_without grant.the_row.coded row access.grants }))
    × ((gone : Securable) → IsSoundAccess next_id (grants_on_dropped gone access))
unfolding facts_without
dropped_grants next_id access sound = (
  λ row. grants_kept next_id access sound (λ kept. not (same grant.the_row.coded row kept)),
  λ gone. grants_kept next_id access sound (λ kept. not (same securable_code.the_row.coded kept.securable gone)),
)

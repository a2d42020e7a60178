-- Rows that are tied stay so once a row is put or dropped.
use Rattle.std.proofs.Common.{◌≡◌, ◌≢◌, ◌≤◌, ℕ, Bool, true, false, not, cond, ◌&&◌, ◌||◌, List, [], ◌∷◌, ◌++◌, Option, Some, None, option_map, nat_eq, refl, sym, ap, subst, ◌∙◌, codes}
use Rattle.std.specs.Cmp.{nat_eq_equiv}
use Rattle.std.specs.Cmp.Lexicographic.{same_text}
use Rattle.std.specs.Coded.{Coded}
use Rattle.std.specs.List.{find, AllByRecursion}
use Rattle.std.specs.Option.{option_or}
use Rattle.std.specs.Str.{bytes_eq}
use Rattle.std.proofs.lemmas.Bool.{and_parts, eq-eqb, eqb-true, ne_eqb, or_parts}
use Rattle.std.proofs.lemmas.List.Folds.{find-append}
use Rattle.pol_access.specs.Access.{AccessRows, catalog_role_id, is_joined, principal_dropped, principal_id, principal_role_dropped, principal_role_id}
use Rattle.pol_access.specs.Names.{catalog_role_named, has_catalog_role_name, has_role_name, principal_role_named}
use Rattle.pol_access.specs.contracts.rows.GrantRow as grant
use Rattle.pol_access.specs.contracts.rows.JoinRow as join
use Rattle.pol_access.specs.declared.privilege.Privilege.{Privilege}
use Rattle.pol_access.specs.declared.privilege.Privilege.TheVariants.{CatalogManageAccess, CatalogManageContent}
use Rattle.pol_access.specs.declared.rows.CatalogRoleRow.{CatalogRoleRow}
use Rattle.pol_access.specs.declared.rows.GrantRow.{GrantRow}
use Rattle.pol_access.specs.declared.rows.JoinRow.{JoinRow}
use Rattle.pol_access.specs.declared.rows.PrincipalRoleRow.{PrincipalRoleRow}
use Rattle.pol_access.specs.declared.securable.Securable.TheVariants.{Catalog}
use Rattle.pol_tables.specs.Facts.{facts_with, facts_without, holds}
use Rattle.pol_tables.specs.Same.{same}
use Rattle.pol_tables.specs.Table.{has_id, knows, row_of, rows_with, rows_without, IdsDiffer}
use Rattle.pol_tables.proofs.FactChangesLemmas.{holds-facts_with}
use Rattle.pol_tables.proofs.ListLemmas.{and_false, each-join, each-weaken, or_true}
use Rattle.pol_tables.proofs.NamedLemmas.{each-own}
use Rattle.pol_tables.proofs.NumberedLemmas.{below-next}
use Rattle.pol_tables.proofs.ReplayLemmas.{knows-rows_with, knows-rows_without, row_of-rows_with}
use Rattle.pol_tables.proofs.RisingLemmas.{knows-below, KeysBelow-more}
use Rattle.pol_tables.proofs.SameLemmas.{same-differ, same-refl}
use Rattle.pol_tables.proofs.TableLemmas.{rows_with-new, some_is}
use Rattle.pol_table_rows.specs.Tables.{table_id}
use Rattle.pol_view_rows.specs.Views.{view_id}
use Rattle.pol_content.specs.Content.{catalog_id, namespace_id, ContentRows}
use Rattle.pol_content.specs.Ties.{is_access_id, is_content_id, manages, HasAdmin, IdsApart, IsGrantWithin, AreTied}
use Rattle.pol_content.specs.declared.rows.CatalogRow.{CatalogRow}
use Rattle.pol_content.proofs.SoundLemmas.{each-fails}
use Rattle.pol_access.specs.declared.rows.MemberRow.{MemberRow}
use Rattle.pol_access.specs.declared.rows.PrincipalRow.{PrincipalRow}
use Rattle.pol_content.specs.Sound.{IsSoundContent}
use Rattle.pol_access.proofs.KeptLemmas.{found-passes, find-kept, each-kept, holds-kept, holds-with, each-with, find-push, found-holds}

pub or-false : (a b : Bool) → a ≡ false → b ≡ false → (a || b) ≡ false
or-false a b left right = λ i. left i || right i

-- what is found in a list with an item more, where none was found before
module _ {X : Type 0} (test : X → Bool) where
  pub find-last : (xs : List X) (new : X) → find test xs ≡ None → test new ≡ true → find test (xs ++ new ∷ []) ≡ Some new
  find-last xs new none passes =
      find-append test xs (new ∷ []) ∙ ap (λ one. option_or one (find test (new ∷ []))) none ∙ ap (λ b. cond b (Some new) None) passes

-- a value that a found row gives is given by another that is found
pub mapped-kept : {R : Type 0} (f : R → ℕ) (value : ℕ) (found after : Option R) → ((row : R) → found ≡ Some row → f row ≡ value → option_map f after ≡ Some value) → option_map f found ≡ Some value → option_map f after ≡ Some value
mapped-kept f value None after so is = let contrary : None ≡ Some value = is in cc
mapped-kept f value (Some row) after so is = so row refl (some_is (f row) value is)

module _ {R : Type 0} (key : R → ℕ) where
  -- rows once one is put
  pub knows-put : (id : ℕ) (row : R) (rows : List R) → knows key id rows ≡ true → knows key id (rows_with key row rows) ≡ true
  knows-put id row rows there =
      knows-rows_with key id row rows ∙ ap (λ b. has_id key id row || b) there ∙ or_true (has_id key id row)

  pub unknown-put : (id : ℕ) (row : R) (rows : List R) → knows key id rows ≡ false → has_id key id row ≡ false → knows key id (rows_with key row rows) ≡ false
  unknown-put id row rows unknown apart = knows-rows_with key id row rows ∙ (λ i. apart i || unknown i)

  pub unknown-without : (id gone : ℕ) (rows : List R) → knows key id rows ≡ false → knows key id (rows_without key gone rows) ≡ false
  unknown-without id gone rows unknown =
      knows-rows_without key id gone rows ∙ ap (λ b. not (nat_eq id gone) && b) unknown ∙ and_false (not (nat_eq id gone))

  pub knows-without : (id gone : ℕ) (rows : List R) → knows key id rows ≡ true → nat_eq id gone ≡ false → knows key id (rows_without key gone rows) ≡ true
  knows-without id gone rows known apart = knows-rows_without key id gone rows ∙ (λ i. not (apart i) && known i)

  pub find-pushed : (test : R → Bool) (new row : R) (rows : List R) → knows key (key new) rows ≡ false → find test rows ≡ Some row → find test (rows_with key new rows) ≡ Some row
  find-pushed test new row rows unknown found = ap (find test) (rows_with-new key new rows unknown) ∙ find-push test rows (new ∷ []) row found

  pub find-new : (test : R → Bool) (new : R) (rows : List R) → knows key (key new) rows ≡ false → find test rows ≡ None → test new ≡ true → find test (rows_with key new rows) ≡ Some new
  find-new test new rows unknown none passes = ap (find test) (rows_with-new key new rows unknown) ∙ find-last test rows new none passes

  pub find-without : (test : R → Bool) (gone : ℕ) (row : R) (rows : List R) → find test rows ≡ Some row → has_id key gone row ≡ false → find test (rows_without key gone rows) ≡ Some row
  unfolding rows_without
  find-without test gone row rows found apart =
      find-kept test (λ kept. not (has_id key gone kept)) rows row found (ap not apart)

  -- the row of an id once one is put
  pub row_of-put : (row : R) (rows : List R) → row_of key (key row) (rows_with key row rows) ≡ Some row
  row_of-put row rows =
      row_of-rows_with key (key row) row rows ∙ ap (λ b. cond b (Some row) (row_of key (key row) rows)) (eq-eqb (key row) (key row) refl)

  pub row_of-other : (id : ℕ) (row : R) (rows : List R) → has_id key id row ≡ false → row_of key id (rows_with key row rows) ≡ row_of key id rows
  row_of-other id row rows apart = row_of-rows_with key id row rows ∙ ap (λ b. cond b (Some row) (row_of key id rows)) apart

  -- what is found is the row of its id, where ids differ; and two rows of one id are one
  pub found-own : (test : R → Bool) (row : R) (rows : List R) → IdsDiffer key rows → find test rows ≡ Some row → row_of key (key row) rows ≡ Some row
  found-own test row rows differ found =
      found-holds test (λ one. row_of key (key one) rows ≡ Some one) rows row (each-own key rows differ) found

  pub one-row : (test : R → Bool) (row other : R) (rows : List R) → IdsDiffer key rows → find test rows ≡ Some row → row_of key (key other) rows ≡ Some other → key row ≡ key other → row ≡ other
  one-row test row other rows differ found there is =
      some_is row other (sym (found-own test row rows differ found) ∙ ap (λ id. row_of key id rows) is ∙ there)

  -- a row that is found by another test than one that the row of an id passes has another id
  pub other-id : (test : R → Bool) (row gone : R) (rows : List R) → IdsDiffer key rows → find test rows ≡ Some row → row_of key (key gone) rows ≡ Some gone → (test gone ≡ true → ⊥) → key row ≢ key gone
  other-id test row gone rows differ found there fails is =
      fails (subst (λ one. test one ≡ true) (one-row test row gone rows differ found there is) (found-passes test rows row found))

-- facts once one is put, or some are dropped
module _ {T : Type 0} (code : Coded T) where
  pub holds-put : (fact : T) (facts : List T) → holds code fact (facts_with code fact facts) ≡ true
  holds-put fact facts = holds-facts_with code fact fact facts ∙ ap (λ b. b || holds code fact facts) (same-refl code fact)

  pub holds-without : (gone fact : T) (facts : List T) → holds code fact facts ≡ true → fact ≢ gone → holds code fact (facts_without code gone facts) ≡ true
  unfolding facts_without
  holds-without gone fact facts held apart =
      holds-kept code (λ kept. not (same code gone kept)) fact facts held (ap not (same-differ code gone fact (λ is. apart (sym is))))

-- ids that are none of principals and roles
pub record IsUnknown (id : ℕ) (access : AccessRows) : Type 0 where
  pub principals : knows principal_id id access.principals ≡ false
  pub principal_roles : knows principal_role_id id access.principal_roles ≡ false
  pub catalog_roles : knows catalog_role_id id access.catalog_roles ≡ false

pub unknown-parts : (id : ℕ) (access : AccessRows) → is_access_id id access ≡ false → IsUnknown id access
unknown-parts id access none =
    let last = or_parts (knows principal_id id access.principals || knows principal_role_id id access.principal_roles) (knows catalog_role_id id access.catalog_roles) none in
    let first = or_parts (knows principal_id id access.principals) (knows principal_role_id id access.principal_roles) last.0 in
    record { principals = first.0; principal_roles = first.1; catalog_roles = last.1 }

pub unknown-from : (id : ℕ) (access : AccessRows) → IsUnknown id access → is_access_id id access ≡ false
unknown-from id access none =
    or-false (knows principal_id id access.principals || knows principal_role_id id access.principal_roles) (knows catalog_role_id id access.catalog_roles) (or-false (knows principal_id id access.principals) (knows principal_role_id id access.principal_roles) none.principals none.principal_roles) none.catalog_roles

-- ids stay apart where no principal and no role is new, or one whose id is none of the content
module _ (access after : AccessRows) (content : ContentRows) (apart : IdsApart access content) where
  pub apart-fewer : ((id : ℕ) → IsUnknown id access → IsUnknown id after) → IdsApart after content
  apart-fewer so = record {
    catalogs = each-weaken (λ row. is_access_id row.id access ≡ false) (λ row. is_access_id row.id after ≡ false) content.catalogs (λ row none. unknown-from row.id after (so row.id (unknown-parts row.id access none))) apart.catalogs;
    namespaces = each-weaken (λ row. is_access_id row.id access ≡ false) (λ row. is_access_id row.id after ≡ false) content.namespaces (λ row none. unknown-from row.id after (so row.id (unknown-parts row.id access none))) apart.namespaces;
    tables = each-weaken (λ row. is_access_id row.id access ≡ false) (λ row. is_access_id row.id after ≡ false) content.tables (λ row none. unknown-from row.id after (so row.id (unknown-parts row.id access none))) apart.tables;
    views = each-weaken (λ row. is_access_id row.id access ≡ false) (λ row. is_access_id row.id after ≡ false) content.views (λ row none. unknown-from row.id after (so row.id (unknown-parts row.id access none))) apart.views;
  }

  pub apart-put : (new : ℕ) → is_content_id new content ≡ false → ((id : ℕ) → IsUnknown id access → nat_eq id new ≡ false → IsUnknown id after) → IdsApart after content
  apart-put new none so =
      let all = or_parts (knows catalog_id new content.catalogs || knows namespace_id new content.namespaces || knows table_id new content.tables) (knows view_id new content.views) none in
      let last = or_parts (knows catalog_id new content.catalogs || knows namespace_id new content.namespaces) (knows table_id new content.tables) all.0 in
      let parts = or_parts (knows catalog_id new content.catalogs) (knows namespace_id new content.namespaces) last.0 in
      record {
        catalogs = each-join (λ row. nat_eq new row.id ≡ false) (λ row. is_access_id row.id access ≡ false) (λ row. is_access_id row.id after ≡ false) content.catalogs (λ row other unknown. unknown-from row.id after (so row.id (unknown-parts row.id access unknown) (nat_eq_equiv.symm row.id new ∙ other))) (each-fails (has_id catalog_id new) content.catalogs parts.0) apart.catalogs;
        namespaces = each-join (λ row. nat_eq new row.id ≡ false) (λ row. is_access_id row.id access ≡ false) (λ row. is_access_id row.id after ≡ false) content.namespaces (λ row other unknown. unknown-from row.id after (so row.id (unknown-parts row.id access unknown) (nat_eq_equiv.symm row.id new ∙ other))) (each-fails (has_id namespace_id new) content.namespaces parts.1) apart.namespaces;
        tables = each-join (λ row. nat_eq new row.id ≡ false) (λ row. is_access_id row.id access ≡ false) (λ row. is_access_id row.id after ≡ false) content.tables (λ row other unknown. unknown-from row.id after (so row.id (unknown-parts row.id access unknown) (nat_eq_equiv.symm row.id new ∙ other))) (each-fails (has_id table_id new) content.tables last.1) apart.tables;
        views = each-join (λ row. nat_eq new row.id ≡ false) (λ row. is_access_id row.id access ≡ false) (λ row. is_access_id row.id after ≡ false) content.views (λ row other unknown. unknown-from row.id after (so row.id (unknown-parts row.id access unknown) (nat_eq_equiv.symm row.id new ∙ other))) (each-fails (has_id view_id new) content.views all.1) apart.views;
      }

-- an id that was not given out is none of the content
pub new_ids : (next_id id : ℕ) (content : ContentRows) → IsSoundContent next_id content → next_id ≤ id → is_content_id id content ≡ false
new_ids next_id id content sound above =
    let catalogs : knows catalog_id id content.catalogs ≡ false = knows-below catalog_id id content.catalogs (KeysBelow-more catalog_id next_id id content.catalogs above (below-next catalog_id next_id content.catalogs sound.catalogs)) in
    let namespaces : knows namespace_id id content.namespaces ≡ false = knows-below namespace_id id content.namespaces (KeysBelow-more namespace_id next_id id content.namespaces above (below-next namespace_id next_id content.namespaces sound.namespaces)) in
    let tables : knows table_id id content.tables ≡ false = knows-below table_id id content.tables (KeysBelow-more table_id next_id id content.tables above (below-next table_id next_id content.tables sound.tables.numbered)) in
    let views : knows view_id id content.views ≡ false = knows-below view_id id content.views (KeysBelow-more view_id next_id id content.views above (below-next view_id next_id content.views sound.views.numbered)) in
    λ i. ((catalogs i || namespaces i) || tables i) || views i

-- grants stay within their roles' catalogues where the roles are found as before
module _ (access after : AccessRows) (content : ContentRows) where
  pub within-roles : (row : GrantRow) (within : IsGrantWithin access content row) → row_of catalog_role_id row.catalog_role after.catalog_roles ≡ Some within.role → IsGrantWithin after content row
  within-roles row within there = record { role = within.role; there = there; within = within.within }

  pub each-within : ((row : GrantRow) (within : IsGrantWithin access content row) → row_of catalog_role_id row.catalog_role after.catalog_roles ≡ Some within.role) → (grants : List GrantRow) → AllByRecursion (IsGrantWithin access content) grants → AllByRecursion (IsGrantWithin after content) grants
  each-within there grants all = each-weaken (IsGrantWithin access content) (IsGrantWithin after content) grants (λ row within. within-roles row within (there row within)) all

-- a catalogue keeps its `catalog_admin` where its rows are found as before
pub admin-kept : (access after : AccessRows) (catalog : ℕ) (has : HasAdmin access catalog) → catalog_role_named catalog (codes "catalog_admin") after ≡ Some has.role → principal_role_named (codes "service_admin") after ≡ Some has.service
    → is_joined has.service.id has.role.id after ≡ true → ((privilege : Privilege) → manages privilege has.role.id catalog access ≡ true → manages privilege has.role.id catalog after ≡ true) → HasAdmin after catalog
admin-kept access after catalog has role service joined managed = record {
  role = has.role;
  role_there = role;
  service = has.service;
  service_there = service;
  joined = joined;
  manages_access = managed CatalogManageAccess has.manages_access;
  manages_content = managed CatalogManageContent has.manages_content;
}

pub admins-kept : (access after : AccessRows) (content : ContentRows) → AreTied access content → ((one : CatalogRow) → HasAdmin access one.id → HasAdmin after one.id) → AllByRecursion (λ one. HasAdmin after one.id) content.catalogs
admins-kept access after content tied so =
    each-weaken (λ one. HasAdmin access one.id) (λ one. HasAdmin after one.id) content.catalogs so tied.catalog_admins

-- a principal may be put whose id is none of the content, and any may be dropped
pub put_principal : (access : AccessRows) (content : ContentRows) → AreTied access content → (row : PrincipalRow) → is_content_id row.id content ≡ false
    → AreTied (record access { principals = rows_with principal_id row access.principals }) content
put_principal access content tied row none =
    let after : AccessRows = record access { principals = rows_with principal_id row access.principals } in
    record {
      role_catalogs = tied.role_catalogs;
      grants_within = each-within access after content (λ one within. within.there) access.grants tied.grants_within;
      catalog_admins = admins-kept access after content tied (λ one has. admin-kept access after one.id has has.role_there has.service_there has.joined (λ privilege managed. managed));
      ids_apart = apart-put access after content tied.ids_apart row.id none (λ id unknown other. record { principals = unknown-put principal_id id row access.principals unknown.principals other; principal_roles = unknown.principal_roles; catalog_roles = unknown.catalog_roles });
    }

pub dropped_principal : (access : AccessRows) (content : ContentRows) → AreTied access content → (id : ℕ) → AreTied (principal_dropped id access) content
dropped_principal access content tied gone =
    let after : AccessRows = principal_dropped gone access in
    record {
      role_catalogs = tied.role_catalogs;
      grants_within = each-within access after content (λ one within. within.there) access.grants tied.grants_within;
      catalog_admins = admins-kept access after content tied (λ one has. admin-kept access after one.id has has.role_there has.service_there has.joined (λ privilege managed. managed));
      ids_apart = apart-fewer access after content tied.ids_apart (λ id unknown. record { principals = unknown-without principal_id id gone access.principals unknown.principals; principal_roles = unknown.principal_roles; catalog_roles = unknown.catalog_roles });
    }

-- a new principal role may be pushed whose id is none of the content
pub pushed_principal_role : (access : AccessRows) (content : ContentRows) → AreTied access content → (row : PrincipalRoleRow) → knows principal_role_id row.id access.principal_roles ≡ false → is_content_id row.id content ≡ false
    → AreTied (record access { principal_roles = rows_with principal_role_id row access.principal_roles }) content
pushed_principal_role access content tied row new none =
    let after : AccessRows = record access { principal_roles = rows_with principal_role_id row access.principal_roles } in
    record {
      role_catalogs = tied.role_catalogs;
      grants_within = each-within access after content (λ one within. within.there) access.grants tied.grants_within;
      catalog_admins = admins-kept access after content tied (λ one has. admin-kept access after one.id has has.role_there (find-pushed principal_role_id (has_role_name (codes "service_admin")) row has.service access.principal_roles new has.service_there) has.joined (λ privilege managed. managed));
      ids_apart = apart-put access after content tied.ids_apart row.id none (λ id unknown other. record { principals = unknown.principals; principal_roles = unknown-put principal_role_id id row access.principal_roles unknown.principal_roles other; catalog_roles = unknown.catalog_roles });
    }

-- a row of another name doesn't pass the test of a name
pub other-name : (name : List ℕ) (other : List ℕ) → other ≢ name → bytes_eq name other ≡ true → ⊥
other-name name other apart same = apart (sym (same_text name other (sym same)))

-- a principal role other than `service_admin` may be dropped
pub dropped_principal_role : (access : AccessRows) (content : ContentRows) → AreTied access content → (row : PrincipalRoleRow) → IdsDiffer principal_role_id access.principal_roles → row_of principal_role_id row.id access.principal_roles ≡ Some row
    → row.name ≢ codes "service_admin" → AreTied (principal_role_dropped row.id access) content
dropped_principal_role access content tied row differ there named =
    let after : AccessRows = principal_role_dropped row.id access in
    let test = has_role_name (codes "service_admin") in
    let apart : (has : PrincipalRoleRow) → find test access.principal_roles ≡ Some has → nat_eq has.id row.id ≡ false = λ has found. ne_eqb has.id row.id (other-id principal_role_id test has row access.principal_roles differ found there (other-name (codes "service_admin") row.name named)) in
    record {
      role_catalogs = tied.role_catalogs;
      grants_within = each-within access after content (λ one within. within.there) access.grants tied.grants_within;
      catalog_admins = admins-kept access after content tied (λ one has. admin-kept access after one.id has has.role_there (find-without principal_role_id test row.id has.service access.principal_roles has.service_there (nat_eq_equiv.symm row.id has.service.id ∙ apart has.service has.service_there)) (holds-kept join.the_row.coded (λ kept. not (nat_eq kept.principal_role row.id)) (record { principal_role = has.service.id; catalog_role = has.role.id }) access.joins has.joined (ap not (apart has.service has.service_there))) (λ privilege managed. managed));
      ids_apart = apart-fewer access after content tied.ids_apart (λ id unknown. record { principals = unknown.principals; principal_roles = unknown-without principal_role_id id row.id access.principal_roles unknown.principal_roles; catalog_roles = unknown.catalog_roles });
    }

-- members may be put and dropped
pub members_keep : (access : AccessRows) (content : ContentRows) → AreTied access content → (members : List MemberRow) → AreTied (record access { members = members }) content
members_keep access content tied members = record {
  role_catalogs = tied.role_catalogs;
  grants_within = each-within access (record access { members = members }) content (λ row within. within.there) access.grants tied.grants_within;
  catalog_admins = admins-kept access (record access { members = members }) content tied (λ one has. admin-kept access (record access { members = members }) one.id has has.role_there has.service_there has.joined (λ privilege managed. managed));
  ids_apart = record { catalogs = tied.ids_apart.catalogs; namespaces = tied.ids_apart.namespaces; tables = tied.ids_apart.tables; views = tied.ids_apart.views };
}

-- a join may be put, and one other than of `service_admin` to a `catalog_admin` may be dropped
pub put_join : (access : AccessRows) (content : ContentRows) → AreTied access content → (row : JoinRow) → AreTied (record access { joins = facts_with join.the_row.coded row access.joins }) content
put_join access content tied row =
    let after : AccessRows = record access { joins = facts_with join.the_row.coded row access.joins } in
    record {
      role_catalogs = tied.role_catalogs;
      grants_within = each-within access after content (λ one within. within.there) access.grants tied.grants_within;
      catalog_admins = admins-kept access after content tied (λ one has. admin-kept access after one.id has has.role_there has.service_there (holds-with join.the_row.coded (record { principal_role = has.service.id; catalog_role = has.role.id }) row access.joins has.joined) (λ privilege managed. managed));
      ids_apart = record { catalogs = tied.ids_apart.catalogs; namespaces = tied.ids_apart.namespaces; tables = tied.ids_apart.tables; views = tied.ids_apart.views };
    }

-- the name that a found role has
pub role-name : (catalog : ℕ) (name : List ℕ) (row : CatalogRoleRow) → has_catalog_role_name catalog name row ≡ true → (row.catalog ≡ catalog) × (row.name ≡ name)
role-name catalog name row has =
    let parts = and_parts (nat_eq row.catalog catalog) (bytes_eq name row.name) has in
    (eqb-true row.catalog catalog parts.0, sym (same_text name row.name (sym parts.1)))

pub dropped_join : (access : AccessRows) (content : ContentRows) → AreTied access content → (principal_role : PrincipalRoleRow) (catalog_role : CatalogRoleRow) → IdsDiffer principal_role_id access.principal_roles → IdsDiffer catalog_role_id access.catalog_roles
    → row_of principal_role_id principal_role.id access.principal_roles ≡ Some principal_role → row_of catalog_role_id catalog_role.id access.catalog_roles ≡ Some catalog_role
    → (principal_role.name ≡ codes "service_admin" → catalog_role.name ≢ codes "catalog_admin")
    → AreTied (record access { joins = facts_without join.the_row.coded (record { principal_role = principal_role.id; catalog_role = catalog_role.id }) access.joins }) content
dropped_join access content tied principal_role catalog_role roles_differ differ role_there there other =
    let gone : JoinRow = record { principal_role = principal_role.id; catalog_role = catalog_role.id } in
    let after : AccessRows = record access { joins = facts_without join.the_row.coded gone access.joins } in
    record {
      role_catalogs = tied.role_catalogs;
      grants_within = each-within access after content (λ one within. within.there) access.grants tied.grants_within;
      catalog_admins = admins-kept access after content tied (λ one has. admin-kept access after one.id has has.role_there has.service_there (holds-without join.the_row.coded gone (record { principal_role = has.service.id; catalog_role = has.role.id }) access.joins has.joined (λ is. stays one has (ap (λ join_. join_.principal_role) is) (ap (λ join_. join_.catalog_role) is))) (λ privilege managed. managed));
      ids_apart = record { catalogs = tied.ids_apart.catalogs; namespaces = tied.ids_apart.namespaces; tables = tied.ids_apart.tables; views = tied.ids_apart.views };
    }
  where
    stays : (one : CatalogRow) (has : HasAdmin access one.id) → has.service.id ≡ principal_role.id → has.role.id ≡ catalog_role.id → ⊥
    stays one has service_is role_is =
        let service = one-row principal_role_id (has_role_name (codes "service_admin")) has.service principal_role access.principal_roles roles_differ has.service_there role_there service_is in
        let role = one-row catalog_role_id (has_catalog_role_name one.id (codes "catalog_admin")) has.role catalog_role access.catalog_roles differ has.role_there there role_is in
        let service_named = found-passes (has_role_name (codes "service_admin")) access.principal_roles has.service has.service_there in
        let role_named = role-name one.id (codes "catalog_admin") has.role (found-passes (has_catalog_role_name one.id (codes "catalog_admin")) access.catalog_roles has.role has.role_there) in
        other (sym (ap (λ row. row.name) service) ∙ sym (same_text (codes "service_admin") has.service.name (sym service_named))) (sym (ap (λ row. row.name) role) ∙ role_named.1)

-- a grant on what lies in its role's catalogue may be put, and one other than the two of a `catalog_admin` on its
-- catalogue may be dropped
pub put_grant : (access : AccessRows) (content : ContentRows) → AreTied access content → (row : GrantRow) → IsGrantWithin access content row
    → AreTied (record access { grants = facts_with grant.the_row.coded row access.grants }) content
put_grant access content tied row within =
    let after : AccessRows = record access { grants = facts_with grant.the_row.coded row access.grants } in
    record {
      role_catalogs = tied.role_catalogs;
      grants_within = each-with grant.the_row.coded (IsGrantWithin after content) row access.grants (each-within access after content (λ one inside. inside.there) access.grants tied.grants_within) (within-roles access after content row within within.there);
      catalog_admins = admins-kept access after content tied (λ one has. admin-kept access after one.id has has.role_there has.service_there has.joined (λ privilege managed. holds-with grant.the_row.coded (record { catalog_role = has.role.id; privilege = privilege; securable = Catalog one.id }) row access.grants managed));
      ids_apart = record { catalogs = tied.ids_apart.catalogs; namespaces = tied.ids_apart.namespaces; tables = tied.ids_apart.tables; views = tied.ids_apart.views };
    }

pub dropped_grant : (access : AccessRows) (content : ContentRows) → AreTied access content → (role : CatalogRoleRow) (row : GrantRow) → IdsDiffer catalog_role_id access.catalog_roles → row_of catalog_role_id row.catalog_role access.catalog_roles ≡ Some role
    → (role.name ≡ codes "catalog_admin" → row.securable ≡ Catalog role.catalog → (row.privilege ≢ CatalogManageAccess) × (row.privilege ≢ CatalogManageContent))
    → AreTied (record access { grants = facts_without grant.the_row.coded row access.grants }) content
unfolding facts_without
dropped_grant access content tied role row differ there other =
    let after : AccessRows = record access { grants = facts_without grant.the_row.coded row access.grants } in
    record {
      role_catalogs = tied.role_catalogs;
      grants_within = each-kept (IsGrantWithin access content) (IsGrantWithin after content) (λ kept. not (same grant.the_row.coded row kept)) access.grants tied.grants_within (λ one within stays. within-roles access after content one within within.there);
      catalog_admins = each-weaken (λ one. HasAdmin access one.id) (λ one. HasAdmin after one.id) content.catalogs (λ one has. record {
        role = has.role;
        role_there = has.role_there;
        service = has.service;
        service_there = has.service_there;
        joined = has.joined;
        manages_access = holds-without grant.the_row.coded row (record { catalog_role = has.role.id; privilege = CatalogManageAccess; securable = Catalog one.id }) access.grants has.manages_access (λ is. (admins one has (ap (λ grant_. grant_.catalog_role) is) (ap (λ grant_. grant_.securable) is)).0 (sym (ap (λ grant_. grant_.privilege) is)));
        manages_content = holds-without grant.the_row.coded row (record { catalog_role = has.role.id; privilege = CatalogManageContent; securable = Catalog one.id }) access.grants has.manages_content (λ is. (admins one has (ap (λ grant_. grant_.catalog_role) is) (ap (λ grant_. grant_.securable) is)).1 (sym (ap (λ grant_. grant_.privilege) is)));
      }) tied.catalog_admins;
      ids_apart = record { catalogs = tied.ids_apart.catalogs; namespaces = tied.ids_apart.namespaces; tables = tied.ids_apart.tables; views = tied.ids_apart.views };
    }
  where
    admins : (one : CatalogRow) (has : HasAdmin access one.id) → has.role.id ≡ row.catalog_role → Catalog one.id ≡ row.securable → (row.privilege ≢ CatalogManageAccess) × (row.privilege ≢ CatalogManageContent)
    admins one has role_is on =
        let own = found-own catalog_role_id (has_catalog_role_name one.id (codes "catalog_admin")) has.role access.catalog_roles differ has.role_there in
        let is = some_is has.role role (sym own ∙ ap (λ id. row_of catalog_role_id id access.catalog_roles) role_is ∙ there) in
        let named = role-name one.id (codes "catalog_admin") has.role (found-passes (has_catalog_role_name one.id (codes "catalog_admin")) access.catalog_roles has.role has.role_there) in
        other (sym (ap (λ kept. kept.name) is) ∙ named.1) (sym on ∙ ap Catalog (sym named.0 ∙ ap (λ kept. kept.catalog) is))

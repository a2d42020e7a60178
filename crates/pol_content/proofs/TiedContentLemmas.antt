-- Rows that are tied stay so once a catalogue, a namespace, a table or a catalogue role is put or dropped. Views have
-- lemmas of their own.
use Rattle.std.proofs.Common.{◌≡◌, ◌≢◌, ℕ, ◌+◌, Bool, true, false, not, cond, ◌&&◌, ◌||◌, List, [], ◌∷◌, ◌++◌, map, Option, Some, None, is_some, option_and_then, option_map, nat_eq, refl, sym, ap, ◌∙◌, true≢false, arith, codes}
use Rattle.std.specs.Cmp.{nat_eq_equiv}
use Rattle.std.specs.Cmp.Lexicographic.{nat_list_eq_equiv}
use Rattle.std.specs.List.{find, list_any, AllByRecursion}
use Rattle.std.specs.Str.{bytes_eq}
use Rattle.std.proofs.lemmas.Bool.{and_from, eq-eqb, eqb-true, ne_eqb, or_parts}
use Rattle.std.proofs.lemmas.List.{append_assoc}
use Rattle.pol_access.specs.Access.{AccessRows, catalog_role_dropped, catalog_role_id, catalog_roles_dropped, grants_on_dropped}
use Rattle.pol_access.specs.Names.{has_catalog_role_name, principal_role_named}
use Rattle.pol_access.specs.Referent.{is_of_catalog, is_role_of}
use Rattle.pol_access.specs.Sound.{IsJoinOf}
use Rattle.pol_access.specs.contracts.rows.GrantRow as grant
use Rattle.pol_access.specs.contracts.rows.JoinRow as join
use Rattle.pol_access.specs.contracts.securable.Securable.{the_row}
use Rattle.pol_access.specs.declared.privilege.Privilege.{Privilege}
use Rattle.pol_access.specs.declared.privilege.Privilege.TheVariants.{CatalogManageAccess, CatalogManageContent}
use Rattle.pol_access.specs.declared.rows.CatalogRoleRow.{CatalogRoleRow}
use Rattle.pol_access.specs.declared.rows.GrantRow.{GrantRow}
use Rattle.pol_access.specs.declared.rows.JoinRow.{JoinRow}
use Rattle.pol_access.specs.declared.securable.Securable.{Securable}
use Rattle.pol_access.specs.declared.securable.Securable.TheVariants.{Realm, Catalog, Namespace, Table, View}
use Rattle.pol_tables.specs.Facts.{facts_with, holds}
use Rattle.pol_tables.specs.Same.{same}
use Rattle.pol_tables.specs.Table.{has_id, knows, row_of, rows_with, rows_without, IdsDiffer}
use Rattle.pol_tables.proofs.FactsLemmas.{facts_with-new}
use Rattle.pol_tables.proofs.ListLemmas.{each-map, each-weaken}
use Rattle.pol_tables.proofs.NamedLemmas.{each-rows_with, each-rows_without, find-none}
use Rattle.pol_tables.proofs.SameLemmas.{same-differ, same-refl}
use Rattle.pol_tables.proofs.TableLemmas.{is_some-row_of, key-row_of, rows_with-new}
use Rattle.pol_table_rows.specs.Tables.{holds_table, table_id}
use Rattle.pol_table_rows.specs.declared.row.TableRow.{TableRow}
use Rattle.pol_view_rows.specs.Views.{holds_view, view_id}
use Rattle.pol_view_rows.specs.declared.row.ViewRow.{ViewRow}
use Rattle.pol_content.specs.Content.{catalog_id, namespace_id, ContentRows}
use Rattle.pol_content.specs.Ties.{admin_grant, admin_join, admin_of, catalog_of, catalog_of_namespace, is_access_id, with_admin, HasAdmin, IdsApart, IsGrantWithin, IsAdminNew, AreTied, is_content_id, with_admin_last}
use Rattle.pol_content.specs.declared.rows.CatalogRow.{CatalogRow}
use Rattle.pol_content.specs.declared.rows.NamespaceRow.{NamespaceRow}
use Rattle.pol_content.proofs.SoundLemmas.{each-fails, none-push}
use Rattle.pol_content.proofs.TiesLemmas.{admin-kept, admins-kept, apart-fewer, apart-put, each-within, find-new, find-pushed, find-without, found-own, holds-put, knows-put, knows-without, mapped-kept, other-id, role-name, row_of-other, row_of-put, unknown-from, unknown-parts, unknown-put, unknown-without, within-roles, IsUnknown}
use Rattle.pol_access.specs.declared.rows.PrincipalRoleRow.{PrincipalRoleRow}
use Rattle.pol_access.proofs.KeptLemmas.{any-fewer, found-holds, found-passes, find-kept, each-kept, holds-kept, holds-with, each-with, not-true}

-- where each item fails none passes
any-none : {X : Type 0} (test : X → Bool) (xs : List X) → AllByRecursion (λ x. test x ≡ false) xs → list_any test xs ≡ false
any-none test [] all = refl
any-none test (x ∷ xs) all = ap (λ b. b || list_any test xs) all.0 ∙ any-none test xs all.1

-- a catalogue's `catalog_admin`
abbrev is_admin : ℕ → CatalogRoleRow → Bool
is_admin catalog = has_catalog_role_name catalog (codes "catalog_admin")

-- a new role of a catalogue that is there may be pushed, whose id is none of the content
pub pushed_catalog_role : (access : AccessRows) (content : ContentRows) → AreTied access content → (row : CatalogRoleRow) → knows catalog_role_id row.id access.catalog_roles ≡ false → is_content_id row.id content ≡ false
    → knows catalog_id row.catalog content.catalogs ≡ true → AreTied (record access { catalog_roles = rows_with catalog_role_id row access.catalog_roles }) content
pushed_catalog_role access content tied row new none there =
    let after : AccessRows = record access { catalog_roles = rows_with catalog_role_id row access.catalog_roles } in
    record {
      role_catalogs = each-rows_with catalog_role_id (λ one. knows catalog_id one.catalog content.catalogs ≡ true) (λ one. knows catalog_id one.catalog content.catalogs ≡ true) row access.catalog_roles tied.role_catalogs (λ one known other. known) there;
      grants_within = each-within access after content (λ one within. find-pushed catalog_role_id (has_id catalog_role_id one.catalog_role) row within.role access.catalog_roles new within.there) access.grants tied.grants_within;
      catalog_admins = admins-kept access after content tied (λ one has. admin-kept access after one.id has (find-pushed catalog_role_id (is_admin one.id) row has.role access.catalog_roles new has.role_there) has.service_there has.joined (λ privilege managed. managed));
      ids_apart = apart-put access after content tied.ids_apart row.id none (λ id unknown other. record { principals = unknown.principals; principal_roles = unknown.principal_roles; catalog_roles = unknown-put catalog_role_id id row access.catalog_roles unknown.catalog_roles other });
    }

-- a catalogue role other than a `catalog_admin` may be dropped
pub dropped_catalog_role : (access : AccessRows) (content : ContentRows) → AreTied access content → (row : CatalogRoleRow) → IdsDiffer catalog_role_id access.catalog_roles → row_of catalog_role_id row.id access.catalog_roles ≡ Some row
    → row.name ≢ codes "catalog_admin" → AreTied (catalog_role_dropped row.id access) content
unfolding rows_without
dropped_catalog_role access content tied row differ there named =
    let after : AccessRows = catalog_role_dropped row.id access in
    record {
      role_catalogs = each-rows_without catalog_role_id (λ one. knows catalog_id one.catalog content.catalogs ≡ true) (λ one. knows catalog_id one.catalog content.catalogs ≡ true) row.id access.catalog_roles tied.role_catalogs (λ one known other. known);
      grants_within = each-kept (IsGrantWithin access content) (IsGrantWithin after content) (λ one. not (nat_eq one.catalog_role row.id)) access.grants tied.grants_within (λ one within stays. within-roles access after content one within (find-without catalog_role_id (has_id catalog_role_id one.catalog_role) row.id within.role access.catalog_roles within.there (nat_eq_equiv.symm row.id within.role.id ∙ ap (λ id. nat_eq id row.id) (sym (key-row_of catalog_role_id one.catalog_role within.role access.catalog_roles within.there)) ∙ not-true (nat_eq one.catalog_role row.id) stays)));
      catalog_admins = admins-kept access after content tied (λ one has. admin-kept access after one.id has (find-without catalog_role_id (is_admin one.id) row.id has.role access.catalog_roles has.role_there (nat_eq_equiv.symm row.id has.role.id ∙ apart one has)) has.service_there (holds-kept join.the_row.coded (λ kept. not (nat_eq kept.catalog_role row.id)) (record { principal_role = has.service.id; catalog_role = has.role.id }) access.joins has.joined (ap not (apart one has))) (λ privilege managed. holds-kept grant.the_row.coded (λ kept. not (nat_eq kept.catalog_role row.id)) (record { catalog_role = has.role.id; privilege = privilege; securable = Catalog one.id }) access.grants managed (ap not (apart one has))));
      ids_apart = apart-fewer access after content tied.ids_apart (λ id unknown. record { principals = unknown.principals; principal_roles = unknown.principal_roles; catalog_roles = unknown-without catalog_role_id id row.id access.catalog_roles unknown.catalog_roles });
    }
  where
    apart : (one : CatalogRow) (has : HasAdmin access one.id) → nat_eq has.role.id row.id ≡ false
    apart one has =
        ne_eqb has.role.id row.id (other-id catalog_role_id (is_admin one.id) has.role row access.catalog_roles differ has.role_there there (λ passes. named (role-name one.id (codes "catalog_admin") row passes).1))

-- a securable lies in its catalogue while the row of its id gives that one
module _ (content after : ContentRows) (catalog : ℕ)
    (catalogs : (row : CatalogRow) → row_of catalog_id catalog content.catalogs ≡ Some row → row_of catalog_id catalog after.catalogs ≡ Some row) where
  pub lies-kept : (of : Securable) → ((id : ℕ) (row : NamespaceRow) → of ≡ Namespace id → row_of namespace_id id content.namespaces ≡ Some row → row.catalog ≡ catalog → option_map (λ one. one.catalog) (row_of namespace_id id after.namespaces) ≡ Some catalog)
      → ((id : ℕ) (row : TableRow) → of ≡ Table id → row_of table_id id content.tables ≡ Some row → catalog_of_namespace row.namespace content ≡ Some catalog → catalog_of (Table id) after ≡ Some catalog)
      → ((id : ℕ) (row : ViewRow) → of ≡ View id → row_of view_id id content.views ≡ Some row → catalog_of_namespace row.namespace content ≡ Some catalog → catalog_of (View id) after ≡ Some catalog)
      → catalog_of of content ≡ Some catalog → catalog_of of after ≡ Some catalog
  lies-kept Realm namespaces tables views lies = lies
  lies-kept (Catalog id) namespaces tables views lies =
      mapped-kept (λ one. one.id) catalog (row_of catalog_id id content.catalogs) (row_of catalog_id id after.catalogs) (λ row found is. kept row found is) lies
    where
      kept : (row : CatalogRow) → row_of catalog_id id content.catalogs ≡ Some row → row.id ≡ catalog → option_map (λ one. one.id) (row_of catalog_id id after.catalogs) ≡ Some catalog
      kept row found is =
          let same_id : id ≡ catalog = key-row_of catalog_id id row content.catalogs found ∙ is in
          ap (λ one. option_map (λ (kept : CatalogRow). kept.id) (row_of catalog_id one after.catalogs)) same_id ∙ ap (option_map (λ (kept : CatalogRow). kept.id)) (catalogs row (ap (λ one. row_of catalog_id one content.catalogs) (sym same_id) ∙ found)) ∙ ap Some is
  lies-kept (Namespace id) namespaces tables views lies =
      mapped-kept (λ one. one.catalog) catalog (row_of namespace_id id content.namespaces) (row_of namespace_id id after.namespaces) (λ row found is. namespaces id row refl found is) lies
  lies-kept (Table id) namespaces tables views lies = by (row_of table_id id content.tables) refl lies
    where
      by : (found : Option TableRow) → row_of table_id id content.tables ≡ found → option_and_then (λ (row : TableRow). catalog_of_namespace row.namespace content) found ≡ Some catalog → catalog_of (Table id) after ≡ Some catalog
      by None is none = let contrary : None ≡ Some catalog = none in cc
      by (Some row) is inside = tables id row refl is inside
  lies-kept (View id) namespaces tables views lies = by (row_of view_id id content.views) refl lies
    where
      by : (found : Option ViewRow) → row_of view_id id content.views ≡ found → option_and_then (λ (row : ViewRow). catalog_of_namespace row.namespace content) found ≡ Some catalog → catalog_of (View id) after ≡ Some catalog
      by None is none = let contrary : None ≡ Some catalog = none in cc
      by (Some row) is inside = views id row refl is inside

-- a view that stays lies where it did
pub view-stays : (content : ContentRows) (catalog id : ℕ) (row : ViewRow) → row_of view_id id content.views ≡ Some row → catalog_of_namespace row.namespace content ≡ Some catalog
    → option_and_then (λ (one : ViewRow). catalog_of_namespace one.namespace content) (row_of view_id id content.views) ≡ Some catalog
view-stays content catalog id row found inside = ap (option_and_then (λ (one : ViewRow). catalog_of_namespace one.namespace content)) found ∙ inside

-- a table lies in the catalogue of its namespace once that is found as before
table-lies : (content after : ContentRows) (catalog id : ℕ) (row : TableRow) → row_of table_id id after.tables ≡ Some row
    → ((kept : NamespaceRow) → row_of namespace_id row.namespace content.namespaces ≡ Some kept → kept.catalog ≡ catalog → catalog_of_namespace row.namespace after ≡ Some catalog)
    → catalog_of_namespace row.namespace content ≡ Some catalog → catalog_of (Table id) after ≡ Some catalog
table-lies content after catalog id row found so lies =
    ap (option_and_then (λ (one : TableRow). catalog_of_namespace one.namespace after)) found ∙ mapped-kept (λ one. one.catalog) catalog (row_of namespace_id row.namespace content.namespaces) (row_of namespace_id row.namespace after.namespaces) so lies

-- and so does a view
view-lies : (content after : ContentRows) (catalog id : ℕ) (row : ViewRow) → row_of view_id id after.views ≡ Some row
    → ((kept : NamespaceRow) → row_of namespace_id row.namespace content.namespaces ≡ Some kept → kept.catalog ≡ catalog → catalog_of_namespace row.namespace after ≡ Some catalog)
    → catalog_of_namespace row.namespace content ≡ Some catalog → catalog_of (View id) after ≡ Some catalog
view-lies content after catalog id row found so lies =
    ap (option_and_then (λ (one : ViewRow). catalog_of_namespace one.namespace after)) found ∙ mapped-kept (λ one. one.catalog) catalog (row_of namespace_id row.namespace content.namespaces) (row_of namespace_id row.namespace after.namespaces) so lies

-- a namespace may be put, a new one or one that stays in its catalogue, whose id is no principal's and no role's
pub put_namespace : (access : AccessRows) (content : ContentRows) → AreTied access content → (row : NamespaceRow) → ((old : NamespaceRow) → row_of namespace_id row.id content.namespaces ≡ Some old → row.catalog ≡ old.catalog)
    → is_access_id row.id access ≡ false → AreTied access (record content { namespaces = rows_with namespace_id row content.namespaces })
put_namespace access content tied row same_catalog none =
    let after : ContentRows = record content { namespaces = rows_with namespace_id row content.namespaces } in
    record {
      role_catalogs = tied.role_catalogs;
      grants_within = each-weaken (IsGrantWithin access content) (IsGrantWithin access after) access.grants (λ one within. record { role = within.role; there = within.there; within = lies-kept content after within.role.catalog (λ kept found. found) one.securable (λ id kept is found in_. lies id kept within.role.catalog found in_ (has_id namespace_id id row) refl) (λ id kept is found. table-lies content after within.role.catalog id kept found (λ one there in_. lies kept.namespace one within.role.catalog there in_ (has_id namespace_id kept.namespace row) refl)) (λ id kept is found. view-lies content after within.role.catalog id kept found (λ one there in_. lies kept.namespace one within.role.catalog there in_ (has_id namespace_id kept.namespace row) refl)) within.within }) tied.grants_within;
      catalog_admins = tied.catalog_admins;
      ids_apart = record {
        catalogs = tied.ids_apart.catalogs;
        namespaces = each-rows_with namespace_id (λ kept. is_access_id kept.id access ≡ false) (λ kept. is_access_id kept.id access ≡ false) row content.namespaces tied.ids_apart.namespaces (λ kept apart other. apart) none;
        tables = tied.ids_apart.tables;
        views = tied.ids_apart.views;
      };
    }
  where
    -- the row of an id once one is put
    lies : (id : ℕ) (kept : NamespaceRow) (catalog : ℕ) → row_of namespace_id id content.namespaces ≡ Some kept → kept.catalog ≡ catalog → (b : Bool) → has_id namespace_id id row ≡ b
        → option_map (λ one. one.catalog) (row_of namespace_id id (rows_with namespace_id row content.namespaces)) ≡ Some catalog
    lies id kept catalog found in_ true is =
        let one = eqb-true id row.id is in
        ap (option_map (λ (other : NamespaceRow). other.catalog)) (ap (λ n. row_of namespace_id n (rows_with namespace_id row content.namespaces)) one ∙ row_of-put namespace_id row content.namespaces) ∙ ap Some (same_catalog kept (ap (λ n. row_of namespace_id n content.namespaces) (sym one) ∙ found) ∙ in_)
    lies id kept catalog found in_ false is =
        ap (option_map (λ (other : NamespaceRow). other.catalog)) (row_of-other namespace_id id row content.namespaces is ∙ found) ∙ ap Some in_

-- a namespace without tables and views may be dropped with the grants on it
pub dropped_namespace : (access : AccessRows) (content : ContentRows) → AreTied access content → (id : ℕ) → holds_table id content.tables ≡ false → holds_view id content.views ≡ false → AreTied (grants_on_dropped (Namespace id) access) (record content { namespaces = rows_without namespace_id id content.namespaces })
dropped_namespace access content tied gone empty no_views =
    let after : ContentRows = record content { namespaces = rows_without namespace_id gone content.namespaces } in
    let roles : AccessRows = grants_on_dropped (Namespace gone) access in
    record {
      role_catalogs = tied.role_catalogs;
      grants_within = each-kept (IsGrantWithin access content) (IsGrantWithin roles after) (λ one. not (same the_row.coded one.securable (Namespace gone))) access.grants tied.grants_within (λ one within stays. record { role = within.role; there = within.there; within = lies-kept content after within.role.catalog (λ kept found. found) one.securable (λ id kept is found in_. lies id kept within.role.catalog found in_ (granted id kept found (ap (λ of. same the_row.coded of (Namespace gone)) (sym is) ∙ not-true (same the_row.coded one.securable (Namespace gone)) stays))) (λ id kept is found. table-lies content after within.role.catalog id kept found (λ upper there in_. lies kept.namespace upper within.role.catalog there in_ (held id kept upper found there))) (λ id kept is found. view-lies content after within.role.catalog id kept found (λ upper there in_. lies kept.namespace upper within.role.catalog there in_ (view-held id kept upper found there))) within.within });
      catalog_admins = admins-kept access roles content tied (λ one has. admin-kept access roles one.id has has.role_there has.service_there has.joined (λ privilege managed. holds-kept grant.the_row.coded (λ kept. not (same the_row.coded kept.securable (Namespace gone))) (record { catalog_role = has.role.id; privilege = privilege; securable = Catalog one.id }) access.grants managed (ap not (same-differ the_row.coded (Catalog one.id) (Namespace gone) (λ is. no_namespace one.id is)))));
      ids_apart = record {
        catalogs = tied.ids_apart.catalogs;
        namespaces = each-rows_without namespace_id (λ kept. is_access_id kept.id access ≡ false) (λ kept. is_access_id kept.id access ≡ false) gone content.namespaces tied.ids_apart.namespaces (λ kept apart other. apart);
        tables = tied.ids_apart.tables;
        views = tied.ids_apart.views;
      };
    }
  where
    no_namespace : (id : ℕ) → Catalog id ≡ Namespace gone → ⊥
    no_namespace id is = cc

    -- the namespace of a grant that stays, or of a table or a view, is another one
    granted : (id : ℕ) (kept : NamespaceRow) → row_of namespace_id id content.namespaces ≡ Some kept → same the_row.coded (Namespace id) (Namespace gone) ≡ false → nat_eq gone kept.id ≡ false
    granted id kept found apart =
        ne_eqb gone kept.id (λ is. true≢false (sym (ap (λ n. same the_row.coded (Namespace id) (Namespace n)) (is ∙ sym (key-row_of namespace_id id kept content.namespaces found)) ∙ same-refl the_row.coded (Namespace id)) ∙ apart))

    held : (id : ℕ) (row : TableRow) (kept : NamespaceRow) → row_of table_id id content.tables ≡ Some row → row_of namespace_id row.namespace content.namespaces ≡ Some kept → nat_eq gone kept.id ≡ false
    held id row kept found there =
        let apart = found-holds (has_id table_id id) (λ one. nat_eq one.namespace gone ≡ false) content.tables row (each-fails (λ one. nat_eq one.namespace gone) content.tables empty) found in
        nat_eq_equiv.symm gone kept.id ∙ ap (λ n. nat_eq n gone) (sym (key-row_of namespace_id row.namespace kept content.namespaces there)) ∙ apart

    view-held : (id : ℕ) (row : ViewRow) (kept : NamespaceRow) → row_of view_id id content.views ≡ Some row → row_of namespace_id row.namespace content.namespaces ≡ Some kept → nat_eq gone kept.id ≡ false
    view-held id row kept found there =
        let apart = found-holds (has_id view_id id) (λ one. nat_eq one.namespace gone ≡ false) content.views row (each-fails (λ one. nat_eq one.namespace gone) content.views no_views) found in
        nat_eq_equiv.symm gone kept.id ∙ ap (λ n. nat_eq n gone) (sym (key-row_of namespace_id row.namespace kept content.namespaces there)) ∙ apart

    lies : (id : ℕ) (kept : NamespaceRow) (catalog : ℕ) → row_of namespace_id id content.namespaces ≡ Some kept → kept.catalog ≡ catalog → nat_eq gone kept.id ≡ false
        → option_map (λ one. one.catalog) (row_of namespace_id id (rows_without namespace_id gone content.namespaces)) ≡ Some catalog
    lies id kept catalog found in_ other =
        ap (option_map (λ (one : NamespaceRow). one.catalog)) (find-without namespace_id (has_id namespace_id id) gone kept content.namespaces found other) ∙ ap Some in_

-- a table may be put, a new one or one that stays in its catalogue, whose id is no principal's and no role's
pub put_table : (access : AccessRows) (content : ContentRows) → AreTied access content → (row : TableRow) → ((old : TableRow) → row_of table_id row.id content.tables ≡ Some old → catalog_of_namespace row.namespace content ≡ catalog_of_namespace old.namespace content)
    → is_access_id row.id access ≡ false → AreTied access (record content { tables = rows_with table_id row content.tables })
put_table access content tied row same_catalog none =
    let after : ContentRows = record content { tables = rows_with table_id row content.tables } in
    record {
      role_catalogs = tied.role_catalogs;
      grants_within = each-weaken (IsGrantWithin access content) (IsGrantWithin access after) access.grants (λ one within. record { role = within.role; there = within.there; within = lies-kept content after within.role.catalog (λ kept found. found) one.securable (λ id kept is found in_. ap (option_map (λ (other : NamespaceRow). other.catalog)) found ∙ ap Some in_) (λ id kept is found inside. lies id kept within.role.catalog found inside (has_id table_id id row) refl) (λ id kept is found inside. view-stays content within.role.catalog id kept found inside) within.within }) tied.grants_within;
      catalog_admins = tied.catalog_admins;
      ids_apart = record {
        catalogs = tied.ids_apart.catalogs;
        namespaces = tied.ids_apart.namespaces;
        tables = each-rows_with table_id (λ kept. is_access_id kept.id access ≡ false) (λ kept. is_access_id kept.id access ≡ false) row content.tables tied.ids_apart.tables (λ kept apart other. apart) none;
        views = tied.ids_apart.views;
      };
    }
  where
    -- the row of an id once one is put
    lies : (id : ℕ) (kept : TableRow) (catalog : ℕ) → row_of table_id id content.tables ≡ Some kept → catalog_of_namespace kept.namespace content ≡ Some catalog → (b : Bool) → has_id table_id id row ≡ b
        → catalog_of (Table id) (record content { tables = rows_with table_id row content.tables }) ≡ Some catalog
    lies id kept catalog found inside true is =
        let one = eqb-true id row.id is in
        ap (option_and_then (λ (other : TableRow). catalog_of_namespace other.namespace content)) (ap (λ n. row_of table_id n (rows_with table_id row content.tables)) one ∙ row_of-put table_id row content.tables) ∙ same_catalog kept (ap (λ n. row_of table_id n content.tables) (sym one) ∙ found) ∙ inside
    lies id kept catalog found inside false is =
        ap (option_and_then (λ (other : TableRow). catalog_of_namespace other.namespace content)) (row_of-other table_id id row content.tables is ∙ found) ∙ inside

-- a table may be dropped with the grants on it
pub dropped_table : (access : AccessRows) (content : ContentRows) → AreTied access content → (id : ℕ) → AreTied (grants_on_dropped (Table id) access) (record content { tables = rows_without table_id id content.tables })
dropped_table access content tied gone =
    let after : ContentRows = record content { tables = rows_without table_id gone content.tables } in
    let roles : AccessRows = grants_on_dropped (Table gone) access in
    record {
      role_catalogs = tied.role_catalogs;
      grants_within = each-kept (IsGrantWithin access content) (IsGrantWithin roles after) (λ one. not (same the_row.coded one.securable (Table gone))) access.grants tied.grants_within (λ one within stays. record { role = within.role; there = within.there; within = lies-kept content after within.role.catalog (λ kept found. found) one.securable (λ id kept is found in_. ap (option_map (λ (other : NamespaceRow). other.catalog)) found ∙ ap Some in_) (λ id kept is found inside. lies id kept within.role.catalog found inside (ap (λ of. same the_row.coded of (Table gone)) (sym is) ∙ not-true (same the_row.coded one.securable (Table gone)) stays)) (λ id kept is found inside. view-stays content within.role.catalog id kept found inside) within.within });
      catalog_admins = admins-kept access roles content tied (λ one has. admin-kept access roles one.id has has.role_there has.service_there has.joined (λ privilege managed. holds-kept grant.the_row.coded (λ kept. not (same the_row.coded kept.securable (Table gone))) (record { catalog_role = has.role.id; privilege = privilege; securable = Catalog one.id }) access.grants managed (ap not (same-differ the_row.coded (Catalog one.id) (Table gone) (λ is. no_table one.id is)))));
      ids_apart = record {
        catalogs = tied.ids_apart.catalogs;
        namespaces = tied.ids_apart.namespaces;
        tables = each-rows_without table_id (λ kept. is_access_id kept.id access ≡ false) (λ kept. is_access_id kept.id access ≡ false) gone content.tables tied.ids_apart.tables (λ kept apart other. apart);
        views = tied.ids_apart.views;
      };
    }
  where
    no_table : (id : ℕ) → Catalog id ≡ Table gone → ⊥
    no_table id is = cc

    lies : (id : ℕ) (kept : TableRow) (catalog : ℕ) → row_of table_id id content.tables ≡ Some kept → catalog_of_namespace kept.namespace content ≡ Some catalog → same the_row.coded (Table id) (Table gone) ≡ false
        → catalog_of (Table id) (record content { tables = rows_without table_id gone content.tables }) ≡ Some catalog
    lies id kept catalog found inside apart =
        let other : nat_eq gone kept.id ≡ false = ne_eqb gone kept.id (λ is. true≢false (sym (ap (λ n. same the_row.coded (Table id) (Table n)) (is ∙ sym (key-row_of table_id id kept content.tables found)) ∙ same-refl the_row.coded (Table id)) ∙ apart)) in
        ap (option_and_then (λ (one : TableRow). catalog_of_namespace one.namespace content)) (find-without table_id (has_id table_id id) gone kept content.tables found other) ∙ inside

-- a catalogue may be dropped with its roles
pub dropped_catalog : (access : AccessRows) (content : ContentRows) → AreTied access content → (id : ℕ) → IdsDiffer catalog_role_id access.catalog_roles
    → AreTied (catalog_roles_dropped id access) (record content { catalogs = rows_without catalog_id id content.catalogs })
unfolding rows_without
dropped_catalog access content tied gone differ =
    let after : ContentRows = record content { catalogs = rows_without catalog_id gone content.catalogs } in
    let roles : AccessRows = catalog_roles_dropped gone access in
    record {
      role_catalogs = each-kept (λ one. knows catalog_id one.catalog content.catalogs ≡ true) (λ one. knows catalog_id one.catalog after.catalogs ≡ true) (λ one. not (nat_eq one.catalog gone)) access.catalog_roles tied.role_catalogs (λ one known stays. knows-without catalog_id one.catalog gone content.catalogs known (not-true (nat_eq one.catalog gone) stays));
      grants_within = each-kept (IsGrantWithin access content) (IsGrantWithin roles after) (λ one. not (is_role_of access.catalog_roles gone one.catalog_role)) access.grants tied.grants_within (λ one within stays. within_others one within (sym (ap (is_of_catalog gone) within.there) ∙ not-true (is_role_of access.catalog_roles gone one.catalog_role) stays));
      catalog_admins = each-rows_without catalog_id (λ one. HasAdmin access one.id) (λ one. HasAdmin roles one.id) gone content.catalogs tied.catalog_admins admins;
      ids_apart = record {
        catalogs = each-rows_without catalog_id (λ kept. is_access_id kept.id roles ≡ false) (λ kept. is_access_id kept.id roles ≡ false) gone content.catalogs ids.catalogs (λ kept apart other. apart);
        namespaces = ids.namespaces;
        tables = ids.tables;
        views = ids.views;
      };
    }
  where
    ids : IdsApart (catalog_roles_dropped gone access) content
    ids = apart-fewer access (catalog_roles_dropped gone access) content tied.ids_apart (λ id unknown. record { principals = unknown.principals; principal_roles = unknown.principal_roles; catalog_roles = any-fewer (has_id catalog_role_id id) (λ row. not (nat_eq row.catalog gone)) access.catalog_roles unknown.catalog_roles })

    -- grants of the roles of other catalogues
    within_others : (one : GrantRow) (within : IsGrantWithin access content one) → nat_eq within.role.catalog gone ≡ false → IsGrantWithin (catalog_roles_dropped gone access) (record content { catalogs = rows_without catalog_id gone content.catalogs }) one
    within_others one within apart = record {
      role = within.role;
      there = find-kept (has_id catalog_role_id one.catalog_role) (λ row. not (nat_eq row.catalog gone)) access.catalog_roles within.role within.there (ap not apart);
      within = lies-kept content (record content { catalogs = rows_without catalog_id gone content.catalogs }) within.role.catalog (λ row found. find-without catalog_id (has_id catalog_id within.role.catalog) gone row content.catalogs found (nat_eq_equiv.symm gone row.id ∙ ap (λ id. nat_eq id gone) (sym (key-row_of catalog_id within.role.catalog row content.catalogs found)) ∙ apart)) one.securable (λ id row is found in_. ap (option_map (λ (kept : NamespaceRow). kept.catalog)) found ∙ ap Some in_) (λ id row is found inside. ap (option_and_then (λ (kept : TableRow). catalog_of_namespace kept.namespace content)) found ∙ inside) (λ id row is found inside. view-stays content within.role.catalog id row found inside) within.within;
    }

    admins : (one : CatalogRow) → HasAdmin access one.id → has_id catalog_id gone one ≡ false → HasAdmin (catalog_roles_dropped gone access) one.id
    admins one has other =
        let named = role-name one.id (codes "catalog_admin") has.role (found-passes (is_admin one.id) access.catalog_roles has.role has.role_there) in
        let apart : nat_eq has.role.catalog gone ≡ false = ap (λ id. nat_eq id gone) named.0 ∙ nat_eq_equiv.symm one.id gone ∙ other in
        let own = found-own catalog_role_id (is_admin one.id) has.role access.catalog_roles differ has.role_there in
        let stays : not (is_role_of access.catalog_roles gone has.role.id) ≡ true = ap not (ap (is_of_catalog gone) own ∙ apart) in
        admin-kept access (catalog_roles_dropped gone access) one.id has (find-kept (is_admin one.id) (λ row. not (nat_eq row.catalog gone)) access.catalog_roles has.role has.role_there (ap not apart)) has.service_there (holds-kept join.the_row.coded (λ kept. not (is_role_of access.catalog_roles gone kept.catalog_role)) (record { principal_role = has.service.id; catalog_role = has.role.id }) access.joins has.joined stays)
        (λ privilege managed. holds-kept grant.the_row.coded (λ kept. not (is_role_of access.catalog_roles gone kept.catalog_role)) (record { catalog_role = has.role.id; privilege = privilege; securable = Catalog one.id }) access.grants managed stays)

-- a catalogue may be created, with its `catalog_admin`, where its id and the one after it are new
pub created_catalog : (access : AccessRows) (content : ContentRows) → AreTied access content → (row : CatalogRow) (service : PrincipalRoleRow) → principal_role_named (codes "service_admin") access ≡ Some service
    → is_content_id row.id content ≡ false → is_content_id (row.id + 1) content ≡ false → is_access_id row.id access ≡ false → is_access_id (row.id + 1) access ≡ false
    → AreTied (with_admin row.id service.id access) (record content { catalogs = rows_with catalog_id row content.catalogs })
created_catalog access content tied row service service_there none none_after unknown unknown_after =
    record {
      role_catalogs = each-rows_with catalog_role_id (λ one. knows catalog_id one.catalog content.catalogs ≡ true) (λ one. knows catalog_id one.catalog after.catalogs ≡ true) (admin_of row.id) access.catalog_roles tied.role_catalogs (λ one known other. knows-put catalog_id one.catalog row content.catalogs known) catalog_there;
      grants_within = each-with grant.the_row.coded (IsGrantWithin roles after) (admin_grant CatalogManageContent row.id) (facts_with grant.the_row.coded (admin_grant CatalogManageAccess row.id) access.grants) (each-with grant.the_row.coded (IsGrantWithin roles after) (admin_grant CatalogManageAccess row.id) access.grants (each-weaken (IsGrantWithin access content) (IsGrantWithin roles after) access.grants within tied.grants_within) (admin_within (admin_grant CatalogManageAccess row.id) refl refl)) (admin_within (admin_grant CatalogManageContent row.id) refl refl);
      catalog_admins = each-rows_with catalog_id (λ one. HasAdmin access one.id) (λ one. HasAdmin roles one.id) row content.catalogs tied.catalog_admins (λ one has other. kept_admin one.id has) new_admin;
      ids_apart = record {
        catalogs = each-rows_with catalog_id (λ kept. is_access_id kept.id roles ≡ false) (λ kept. is_access_id kept.id roles ≡ false) row content.catalogs ids.catalogs (λ kept apart other. apart) (unknown-from row.id roles (still_unknown row.id (unknown-parts row.id access unknown) (ne_eqb row.id (row.id + 1) (λ is. omega (arith, is)))));
        namespaces = ids.namespaces;
        tables = ids.tables;
        views = ids.views;
      };
    }
  where
    roles : AccessRows
    roles = with_admin row.id service.id access

    after : ContentRows
    after = record content { catalogs = rows_with catalog_id row content.catalogs }

    new_catalog : knows catalog_id row.id content.catalogs ≡ false
    new_catalog =
        (or_parts (knows catalog_id row.id content.catalogs) (knows namespace_id row.id content.namespaces) (or_parts (knows catalog_id row.id content.catalogs || knows namespace_id row.id content.namespaces) (knows table_id row.id content.tables) (or_parts (knows catalog_id row.id content.catalogs || knows namespace_id row.id content.namespaces || knows table_id row.id content.tables) (knows view_id row.id content.views) none).0).0).0

    new_role : knows catalog_role_id (row.id + 1) access.catalog_roles ≡ false
    new_role = (unknown-parts (row.id + 1) access unknown_after).catalog_roles

    catalog_there : knows catalog_id row.id (rows_with catalog_id row content.catalogs) ≡ true
    catalog_there = sym (is_some-row_of catalog_id row.id (rows_with catalog_id row content.catalogs)) ∙ ap is_some (row_of-put catalog_id row content.catalogs)

    still_unknown : (id : ℕ) → IsUnknown id access → nat_eq id (row.id + 1) ≡ false → IsUnknown id roles
    still_unknown id other apart = record { principals = other.principals; principal_roles = other.principal_roles; catalog_roles = unknown-put catalog_role_id id (admin_of row.id) access.catalog_roles other.catalog_roles apart }

    ids : IdsApart roles content
    ids = apart-put access roles content tied.ids_apart (row.id + 1) none_after still_unknown

    within : (one : GrantRow) → IsGrantWithin access content one → IsGrantWithin roles after one
    within one inside = record {
      role = inside.role;
      there = find-pushed catalog_role_id (has_id catalog_role_id one.catalog_role) (admin_of row.id) inside.role access.catalog_roles new_role inside.there;
      within = lies-kept content after inside.role.catalog (λ kept found. find-pushed catalog_id (has_id catalog_id inside.role.catalog) row kept content.catalogs new_catalog found) one.securable (λ id kept is found in_. ap (option_map (λ (other : NamespaceRow). other.catalog)) found ∙ ap Some in_) (λ id kept is found lies. ap (option_and_then (λ (other : TableRow). catalog_of_namespace other.namespace content)) found ∙ lies) (λ id kept is found lies. view-stays content inside.role.catalog id kept found lies) inside.within;
    }

    admin_within : (one : GrantRow) → one.catalog_role ≡ row.id + 1 → one.securable ≡ Catalog row.id → IsGrantWithin roles after one
    admin_within one of on = record {
      role = admin_of row.id;
      there = ap (λ id. row_of catalog_role_id id (rows_with catalog_role_id (admin_of row.id) access.catalog_roles)) of ∙ row_of-put catalog_role_id (admin_of row.id) access.catalog_roles;
      within = ap (λ securable. catalog_of securable after) on ∙ ap (option_map (λ (kept : CatalogRow). kept.id)) (row_of-put catalog_id row content.catalogs);
    }

    both_kept : (one : GrantRow) → holds grant.the_row.coded one access.grants ≡ true → holds grant.the_row.coded one roles.grants ≡ true
    both_kept one held =
        holds-with grant.the_row.coded one (admin_grant CatalogManageContent row.id) (facts_with grant.the_row.coded (admin_grant CatalogManageAccess row.id) access.grants) (holds-with grant.the_row.coded one (admin_grant CatalogManageAccess row.id) access.grants held)

    kept_admin : (catalog : ℕ) → HasAdmin access catalog → HasAdmin roles catalog
    kept_admin catalog has =
        admin-kept access roles catalog has (find-pushed catalog_role_id (is_admin catalog) (admin_of row.id) has.role access.catalog_roles new_role has.role_there) has.service_there (holds-with join.the_row.coded (record { principal_role = has.service.id; catalog_role = has.role.id }) (admin_join service.id row.id) access.joins has.joined)
        (λ privilege managed. both_kept (record { catalog_role = has.role.id; privilege = privilege; securable = Catalog catalog }) managed)

    elsewhere : (one : CatalogRoleRow) → knows catalog_id one.catalog content.catalogs ≡ true → is_admin row.id one ≡ false
    elsewhere one known = ap (λ b. b && bytes_eq (codes "catalog_admin") one.name) (ne_eqb one.catalog row.id (λ is. true≢false (sym known ∙ ap (λ id. knows catalog_id id content.catalogs) is ∙ new_catalog)))

    -- no role of the new catalogue was there
    no_role : find (is_admin row.id) access.catalog_roles ≡ None
    no_role = find-none (is_admin row.id) access.catalog_roles (each-weaken (λ one. knows catalog_id one.catalog content.catalogs ≡ true) (λ one. is_admin row.id one ≡ false) access.catalog_roles elsewhere tied.role_catalogs)

    new_admin : HasAdmin roles row.id
    new_admin = record {
      role = admin_of row.id;
      role_there = find-new catalog_role_id (is_admin row.id) (admin_of row.id) access.catalog_roles new_role no_role (and_from (nat_eq row.id row.id) (bytes_eq (codes "catalog_admin") (codes "catalog_admin")) (eq-eqb row.id row.id refl) (nat_list_eq_equiv.refl (codes "catalog_admin")));
      service = service;
      service_there = service_there;
      joined = holds-put join.the_row.coded (admin_join service.id row.id) access.joins;
      manages_access = holds-with grant.the_row.coded (admin_grant CatalogManageAccess row.id) (admin_grant CatalogManageContent row.id) (facts_with grant.the_row.coded (admin_grant CatalogManageAccess row.id) access.grants) (holds-put grant.the_row.coded (admin_grant CatalogManageAccess row.id) access.grants);
      manages_content = holds-put grant.the_row.coded (admin_grant CatalogManageContent row.id) (facts_with grant.the_row.coded (admin_grant CatalogManageAccess row.id) access.grants);
    }

-- the rows of a created catalogue's `catalog_admin` are new, and go last, where its id is new and the roles of joins
-- are there
pub admin_rows_last : (access : AccessRows) (content : ContentRows) → AreTied access content → (catalog service : ℕ) → is_access_id (catalog + 1) access ≡ false
    → AllByRecursion (IsJoinOf access.principal_roles access.catalog_roles) access.joins
    → IsAdminNew catalog service access × (with_admin catalog service access ≡ with_admin_last catalog service access)
admin_rows_last access content tied catalog service unknown joins_there = (
  record { role = new_role; joined = new_join; manages_access = new_grant CatalogManageAccess; manages_content = new_grant CatalogManageContent },
  λ i. record access { catalog_roles = rows_with-new catalog_role_id (admin_of catalog) access.catalog_roles new_role i; joins = facts_with-new join.the_row.coded (admin_join service catalog) access.joins new_join i; grants = grants_last i },
)
  where
    new_role : knows catalog_role_id (catalog + 1) access.catalog_roles ≡ false
    new_role = (unknown-parts (catalog + 1) access unknown).catalog_roles

    new_join : holds join.the_row.coded (admin_join service catalog) access.joins ≡ false
    new_join = any-none (same join.the_row.coded (admin_join service catalog)) access.joins (each-weaken (IsJoinOf access.principal_roles access.catalog_roles) (λ one. same join.the_row.coded (admin_join service catalog) one ≡ false) access.joins (λ one of. same-differ join.the_row.coded (admin_join service catalog) one (λ is. true≢false (sym of.catalog_role ∙ ap (λ (kept : JoinRow). knows catalog_role_id kept.catalog_role access.catalog_roles) (sym is) ∙ new_role))) joins_there)

    new_grant : (privilege : Privilege) → holds grant.the_row.coded (admin_grant privilege catalog) access.grants ≡ false
    new_grant privilege =
        any-none (same grant.the_row.coded (admin_grant privilege catalog)) access.grants (each-weaken (IsGrantWithin access content) (λ one. same grant.the_row.coded (admin_grant privilege catalog) one ≡ false) access.grants (λ one within. same-differ grant.the_row.coded (admin_grant privilege catalog) one (λ is. true≢false (sym (sym (is_some-row_of catalog_role_id one.catalog_role access.catalog_roles) ∙ ap is_some within.there) ∙ ap (λ (kept : GrantRow). knows catalog_role_id kept.catalog_role access.catalog_roles) (sym is) ∙ new_role))) tied.grants_within)

    apart : same grant.the_row.coded (admin_grant CatalogManageContent catalog) (admin_grant CatalogManageAccess catalog) ≡ false
    apart = same-differ grant.the_row.coded (admin_grant CatalogManageContent catalog) (admin_grant CatalogManageAccess catalog) (λ is. let contrary : CatalogManageContent ≡ CatalogManageAccess = ap (λ (one : GrantRow). one.privilege) is in cc)

    grants_last : facts_with grant.the_row.coded (admin_grant CatalogManageContent catalog) (facts_with grant.the_row.coded (admin_grant CatalogManageAccess catalog) access.grants) ≡ access.grants ++ admin_grant CatalogManageAccess catalog ∷ admin_grant CatalogManageContent catalog ∷ []
    grants_last =
        ap (facts_with grant.the_row.coded (admin_grant CatalogManageContent catalog)) (facts_with-new grant.the_row.coded (admin_grant CatalogManageAccess catalog) access.grants (new_grant CatalogManageAccess)) ∙ facts_with-new grant.the_row.coded (admin_grant CatalogManageContent catalog) (access.grants ++ admin_grant CatalogManageAccess catalog ∷ []) (none-push (same grant.the_row.coded (admin_grant CatalogManageContent catalog)) access.grants (admin_grant CatalogManageAccess catalog) (new_grant CatalogManageContent) apart) ∙ append_assoc access.grants (admin_grant CatalogManageAccess catalog ∷ []) (admin_grant CatalogManageContent catalog ∷ [])

-- tables may be altered under their ids, where each stays in its catalogue
altered-found : (alter : TableRow → TableRow) → ((row : TableRow) → (alter row).id ≡ row.id) → (id : ℕ) (row : TableRow) (rows : List TableRow) → row_of table_id id rows ≡ Some row → row_of table_id id (map alter rows) ≡ Some (alter row)
altered-found alter ids id row [] found = let contrary : None ≡ Some row = found in cc
altered-found alter ids id row (first ∷ rows) found =
    ap (λ other. cond (nat_eq id other) (Some (alter first)) (row_of table_id id (map alter rows))) (ids first) ∙ by (has_id table_id id first) found (altered-found alter ids id row rows)
  where
    by : (b : Bool) → cond b (Some first) (row_of table_id id rows) ≡ Some row → (row_of table_id id rows ≡ Some row → row_of table_id id (map alter rows) ≡ Some (alter row)) → cond b (Some (alter first)) (row_of table_id id (map alter rows)) ≡ Some (alter row)
    by true found rest = ap (option_map alter) found
    by false found rest = rest found

pub altered_tables : (access : AccessRows) (content : ContentRows) → AreTied access content → (alter : TableRow → TableRow) → ((row : TableRow) → (alter row).id ≡ row.id)
    → ((id : ℕ) (row : TableRow) → row_of table_id id content.tables ≡ Some row → catalog_of_namespace (alter row).namespace content ≡ catalog_of_namespace row.namespace content) → AreTied access (record content { tables = map alter content.tables })
altered_tables access content tied alter ids same_catalog =
    let after : ContentRows = record content { tables = map alter content.tables } in
    record {
      role_catalogs = tied.role_catalogs;
      grants_within = each-weaken (IsGrantWithin access content) (IsGrantWithin access after) access.grants (λ one within. record { role = within.role; there = within.there; within = lies-kept content after within.role.catalog (λ kept found. found) one.securable (λ id kept is found in_. ap (option_map (λ (other : NamespaceRow). other.catalog)) found ∙ ap Some in_) (λ id kept is found inside. ap (option_and_then (λ (other : TableRow). catalog_of_namespace other.namespace content)) (altered-found alter ids id kept content.tables found) ∙ same_catalog id kept found ∙ inside) (λ id kept is found inside. view-stays content within.role.catalog id kept found inside) within.within }) tied.grants_within;
      catalog_admins = tied.catalog_admins;
      ids_apart = record {
        catalogs = tied.ids_apart.catalogs;
        namespaces = tied.ids_apart.namespaces;
        tables = each-map (λ kept. is_access_id kept.id access ≡ false) alter content.tables (each-weaken (λ kept. is_access_id kept.id access ≡ false) (λ kept. is_access_id (alter kept).id access ≡ false) content.tables (λ kept apart. ap (λ id. is_access_id id access) (ids kept) ∙ apart) tied.ids_apart.tables);
        views = tied.ids_apart.views;
      };
    }

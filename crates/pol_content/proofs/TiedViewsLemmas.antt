-- Rows that are tied stay so once a view is put or dropped.
use Rattle.std.proofs.Common.{◌≡◌, ℕ, Bool, true, false, not, Some, option_and_then, option_map, nat_eq, refl, sym, ap, ◌∙◌, true≢false}
use Rattle.std.proofs.lemmas.Bool.{eqb-true, ne_eqb}
use Rattle.pol_access.specs.Access.{AccessRows, grants_on_dropped}
use Rattle.pol_access.specs.contracts.rows.GrantRow as grant
use Rattle.pol_access.specs.contracts.securable.Securable.{the_row}
use Rattle.pol_access.specs.declared.securable.Securable.TheVariants.{Catalog, View}
use Rattle.pol_access.proofs.KeptLemmas.{each-kept, holds-kept, not-true}
use Rattle.pol_tables.specs.Same.{same}
use Rattle.pol_tables.specs.Table.{has_id, row_of, rows_with, rows_without}
use Rattle.pol_tables.proofs.ListLemmas.{each-weaken}
use Rattle.pol_tables.proofs.NamedLemmas.{each-rows_with, each-rows_without}
use Rattle.pol_tables.proofs.SameLemmas.{same-differ, same-refl}
use Rattle.pol_tables.proofs.TableLemmas.{key-row_of}
use Rattle.pol_table_rows.specs.declared.row.TableRow.{TableRow}
use Rattle.pol_view_rows.specs.Views.{view_id}
use Rattle.pol_view_rows.specs.declared.row.ViewRow.{ViewRow}
use Rattle.pol_content.specs.Content.{ContentRows}
use Rattle.pol_content.specs.Ties.{catalog_of, catalog_of_namespace, is_access_id, AreTied, IsGrantWithin}
use Rattle.pol_content.specs.declared.rows.NamespaceRow.{NamespaceRow}
use Rattle.pol_content.proofs.TiedContentLemmas.{lies-kept}
use Rattle.pol_content.proofs.TiesLemmas.{admin-kept, admins-kept, find-without, row_of-other, row_of-put}

-- a view may be put, a new one or one that stays in its catalogue, whose id is no principal's and no role's
pub put_view : (access : AccessRows) (content : ContentRows) → AreTied access content → (row : ViewRow) → ((old : ViewRow) → row_of view_id row.id content.views ≡ Some old → catalog_of_namespace row.namespace content ≡ catalog_of_namespace old.namespace content)
    → is_access_id row.id access ≡ false → AreTied access (record content { views = rows_with view_id row content.views })
put_view access content tied row same_catalog none =
    let after : ContentRows = record content { views = rows_with view_id row content.views } in
    record {
      role_catalogs = tied.role_catalogs;
      grants_within = each-weaken (IsGrantWithin access content) (IsGrantWithin access after) access.grants (λ one within. record { role = within.role; there = within.there; within = lies-kept content after within.role.catalog (λ kept found. found) one.securable (λ id kept is found in_. ap (option_map (λ (other : NamespaceRow). other.catalog)) found ∙ ap Some in_) (λ id kept is found inside. ap (option_and_then (λ (other : TableRow). catalog_of_namespace other.namespace content)) found ∙ inside) (λ id kept is found inside. lies id kept within.role.catalog found inside (has_id view_id id row) refl) within.within }) tied.grants_within;
      catalog_admins = tied.catalog_admins;
      ids_apart = record {
        catalogs = tied.ids_apart.catalogs;
        namespaces = tied.ids_apart.namespaces;
        tables = tied.ids_apart.tables;
        views = each-rows_with view_id (λ kept. is_access_id kept.id access ≡ false) (λ kept. is_access_id kept.id access ≡ false) row content.views tied.ids_apart.views (λ kept apart other. apart) none;
      };
    }
  where
    -- the row of an id once one is put
    lies : (id : ℕ) (kept : ViewRow) (catalog : ℕ) → row_of view_id id content.views ≡ Some kept → catalog_of_namespace kept.namespace content ≡ Some catalog → (b : Bool) → has_id view_id id row ≡ b
        → catalog_of (View id) (record content { views = rows_with view_id row content.views }) ≡ Some catalog
    lies id kept catalog found inside true is =
        let one = eqb-true id row.id is in
        ap (option_and_then (λ (other : ViewRow). catalog_of_namespace other.namespace content)) (ap (λ n. row_of view_id n (rows_with view_id row content.views)) one ∙ row_of-put view_id row content.views) ∙ same_catalog kept (ap (λ n. row_of view_id n content.views) (sym one) ∙ found) ∙ inside
    lies id kept catalog found inside false is =
        ap (option_and_then (λ (other : ViewRow). catalog_of_namespace other.namespace content)) (row_of-other view_id id row content.views is ∙ found) ∙ inside

-- a view may be dropped with the grants on it
pub dropped_view : (access : AccessRows) (content : ContentRows) → AreTied access content → (id : ℕ) → AreTied (grants_on_dropped (View id) access) (record content { views = rows_without view_id id content.views })
dropped_view access content tied gone =
    let after : ContentRows = record content { views = rows_without view_id gone content.views } in
    let roles : AccessRows = grants_on_dropped (View gone) access in
    record {
      role_catalogs = tied.role_catalogs;
      grants_within = each-kept (IsGrantWithin access content) (IsGrantWithin roles after) (λ one. not (same the_row.coded one.securable (View gone))) access.grants tied.grants_within (λ one within stays. record { role = within.role; there = within.there; within = lies-kept content after within.role.catalog (λ kept found. found) one.securable (λ id kept is found in_. ap (option_map (λ (other : NamespaceRow). other.catalog)) found ∙ ap Some in_) (λ id kept is found inside. ap (option_and_then (λ (other : TableRow). catalog_of_namespace other.namespace content)) found ∙ inside) (λ id kept is found inside. lies id kept within.role.catalog found inside (ap (λ of. same the_row.coded of (View gone)) (sym is) ∙ not-true (same the_row.coded one.securable (View gone)) stays)) within.within });
      catalog_admins = admins-kept access roles content tied (λ one has. admin-kept access roles one.id has has.role_there has.service_there has.joined (λ privilege managed. holds-kept grant.the_row.coded (λ kept. not (same the_row.coded kept.securable (View gone))) (record { catalog_role = has.role.id; privilege = privilege; securable = Catalog one.id }) access.grants managed (ap not (same-differ the_row.coded (Catalog one.id) (View gone) (λ is. no_view one.id is)))));
      ids_apart = record {
        catalogs = tied.ids_apart.catalogs;
        namespaces = tied.ids_apart.namespaces;
        tables = tied.ids_apart.tables;
        views = each-rows_without view_id (λ kept. is_access_id kept.id access ≡ false) (λ kept. is_access_id kept.id access ≡ false) gone content.views tied.ids_apart.views (λ kept apart other. apart);
      };
    }
  where
    no_view : (id : ℕ) → Catalog id ≡ View gone → ⊥
    no_view id is = cc

    lies : (id : ℕ) (kept : ViewRow) (catalog : ℕ) → row_of view_id id content.views ≡ Some kept → catalog_of_namespace kept.namespace content ≡ Some catalog → same the_row.coded (View id) (View gone) ≡ false
        → catalog_of (View id) (record content { views = rows_without view_id gone content.views }) ≡ Some catalog
    lies id kept catalog found inside apart =
        let other : nat_eq gone kept.id ≡ false = ne_eqb gone kept.id (λ is. true≢false (sym (ap (λ n. same the_row.coded (View id) (View n)) (is ∙ sym (key-row_of view_id id kept content.views found)) ∙ same-refl the_row.coded (View id)) ∙ apart)) in
        ap (option_and_then (λ (one : ViewRow). catalog_of_namespace one.namespace content)) (find-without view_id (has_id view_id id) gone kept content.views found other) ∙ inside

-- Sound catalogues, namespaces, tables and views.
use Rattle.std.specs.Prelude.{◌≡◌, ℕ, Bool, true, false, ◌||◌, List, Option, Some, None}
use Rattle.std.specs.Bool.{⊤}
use Rattle.std.specs.List.{list_any, AllByRecursion}
use Rattle.pol_names.specs.Namespace.{parent_of}
use Rattle.pol_table_rows.specs.Sound.{IsSoundTable, LocationsApart}
use Rattle.pol_table_rows.specs.Tables.{TableNamesDiffer, is_table_named, table_id}
use Rattle.pol_tables.specs.Numbered.{AreNumbered}
use Rattle.pol_tables.specs.Table.{knows}
use Rattle.pol_view_rows.specs.Sound.{IsSoundView}
use Rattle.pol_view_rows.specs.Views.{ViewNamesDiffer, view_id}
use Rattle.pol_content.specs.Content.{ContentRows, CatalogNamesDiffer, NamespaceNamesDiffer, catalog_id, is_namespace_named, namespace_id}
use Rattle.pol_content.specs.declared.rows.NamespaceRow.{NamespaceRow}

-- the parent of a namespace, where it has one, is there
abbrev pub IsParentThere : List NamespaceRow → ℕ → Option (List (List ℕ)) → Type 0
IsParentThere rows catalog None = ⊤
IsParentThere rows catalog (Some parent) = list_any (is_namespace_named catalog parent) rows ≡ true

abbrev pub HasParent : List NamespaceRow → NamespaceRow → Type 0
HasParent rows row = IsParentThere rows row.catalog (parent_of row.levels)

-- sound tables: their ids rise, were given out and are no catalogue's and no namespace's; names differ in each
-- namespace, and each table's is there; no two tables overlap, in whatever catalogues they are; and each is sound by
-- itself
pub record AreSoundTables (next_id : ℕ) (content : ContentRows) : Type 0 where
  pub numbered : AreNumbered table_id next_id content.tables
  pub ids_differ : AllByRecursion (λ row. (knows catalog_id row.id content.catalogs || knows namespace_id row.id content.namespaces) ≡ false) content.tables
  pub names_differ : TableNamesDiffer content.tables
  pub namespaces : AllByRecursion (λ row. knows namespace_id row.namespace content.namespaces ≡ true) content.tables
  pub apart : LocationsApart content.tables
  pub each : AllByRecursion IsSoundTable content.tables

-- whether an id is a catalogue's, a namespace's or a table's
abbrev pub is_taken : ℕ → ContentRows → Bool
is_taken id content = knows catalog_id id content.catalogs || knows namespace_id id content.namespaces || knows table_id id content.tables

-- sound views: their ids rise, were given out and are no catalogue's, no namespace's and no table's; names differ in
-- each namespace, from those of its tables too, and each view's is there; and each is sound by itself
pub record AreSoundViews (next_id : ℕ) (content : ContentRows) : Type 0 where
  pub numbered : AreNumbered view_id next_id content.views
  pub ids_differ : AllByRecursion (λ row. is_taken row.id content ≡ false) content.views
  pub names_differ : ViewNamesDiffer content.views
  pub names_apart : AllByRecursion (λ row. list_any (is_table_named row.namespace row.name) content.tables ≡ false) content.views
  pub namespaces : AllByRecursion (λ row. knows namespace_id row.namespace content.namespaces ≡ true) content.views
  pub each : AllByRecursion IsSoundView content.views

-- sound rows: their ids rise, were given out and are all different; names differ, of catalogues in the realm and of
-- namespaces in their catalogue; the catalogue and the parent of each namespace are there; and tables and views are
-- sound
pub record IsSoundContent (next_id : ℕ) (content : ContentRows) : Type 0 where
  pub catalogs : AreNumbered catalog_id next_id content.catalogs
  pub namespaces : AreNumbered namespace_id next_id content.namespaces
  pub ids_differ : AllByRecursion (λ row. knows catalog_id row.id content.catalogs ≡ false) content.namespaces
  pub catalog_names_differ : CatalogNamesDiffer content.catalogs
  pub namespace_names_differ : NamespaceNamesDiffer content.namespaces
  pub namespace_catalogs : AllByRecursion (λ row. knows catalog_id row.catalog content.catalogs ≡ true) content.namespaces
  pub namespace_parents : AllByRecursion (HasParent content.namespaces) content.namespaces
  pub tables : AreSoundTables next_id content
  pub views : AreSoundViews next_id content

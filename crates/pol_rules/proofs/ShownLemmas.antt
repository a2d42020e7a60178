-- What a need is on is shown by its own name.
use Rattle.std.proofs.Common.{◌≡◌, ℕ, List, [], ◌∷◌, reverse, filter_map, Option, None, Some, option_and_then, nat_eq, inl, inr, refl, sym, ap, ◌∙◌}
use Rattle.std.specs.List.{cons_option}
use Rattle.std.specs.Option.{option_map}
use Rattle.std.specs.Str.{bytes_eq}
use Rattle.std.proofs.lemmas.Bool.{and_parts, eqb-true}
use Rattle.pol_access.proofs.KeptLemmas.{found-passes}
use Rattle.pol_access.specs.declared.privilege.Privilege.{Privilege}
use Rattle.pol_access.specs.declared.securable.Securable.TheVariants as securable
use Rattle.pol_commands.specs.declared.securables.SecurableName.TheVariants as name
use Rattle.pol_content.specs.Chain.{deepest, deepest_of_table, deepest_of_view, first_or, namespace_at, table_or, view_or}
use Rattle.pol_content.specs.Content.{catalog_id, is_catalog_named, is_namespace_named, lineage, namespace_id, namespace_named, same_levels}
use Rattle.pol_content.specs.declared.rows.CatalogRow.{CatalogRow}
use Rattle.pol_content.specs.declared.rows.NamespaceRow.{NamespaceRow}
use Rattle.pol_content.proofs.TiesLemmas.{found-own}
use Rattle.pol_names.specs.declared.identifier.Identifier.{Identifier}
use Rattle.pol_table_rows.specs.Tables.{is_table_named, table_id, table_named}
use Rattle.pol_table_rows.specs.declared.row.TableRow.{TableRow}
use Rattle.pol_view_rows.specs.Views.{is_view_named, view_id, view_named}
use Rattle.pol_view_rows.specs.declared.row.ViewRow.{ViewRow}
use Rattle.pol_tables.specs.Table.{row_of}
use Rattle.pol_tables.proofs.RisingLemmas.{IdsDiffer-rising}
use Rattle.pol_state.specs.Rows.{Rows}
use Rattle.pol_state.specs.Sound.{IsSound}
use Rattle.pol_rules.specs.Laws.{AreShown, IsShownIn, IsTableShownIn, IsViewShownIn, NeedsAreShown}
use Rattle.pol_rules.specs.Needs.{catalog_shown, identifier_shown, levels_shown, namespace_shown, on_parent, shown, table_shown, table_shown_in, view_name_shown, view_shown, view_shown_in}

module _ (s : Rows) (sound : IsSound s) (catalog : CatalogRow) (own : row_of catalog_id catalog.id s.content.catalogs ≡ Some catalog) where
  catalog-is : shown s (securable.Catalog catalog.id) ≡ name.Catalog catalog.name
  catalog-is = ap catalog_shown own

  namespace-is : (path : List (List ℕ)) (row : NamespaceRow) → namespace_named catalog.id path s.content ≡ Some row → shown s (securable.Namespace row.id) ≡ name.Namespace catalog.name row.levels
  namespace-is path row found =
      let test = found-passes (is_namespace_named catalog.id path) s.content.namespaces row found in
      let within : catalog.id ≡ row.catalog = eqb-true catalog.id row.catalog (and_parts (nat_eq catalog.id row.catalog) (same_levels path row.levels) test).0 in
      let there = found-own namespace_id (is_namespace_named catalog.id path) row s.content.namespaces (IdsDiffer-rising namespace_id s.content.namespaces sound.orderly.content.namespaces.rise) found in
      ap (namespace_shown s) there ∙ ap (λ id. levels_shown (row_of catalog_id id s.content.catalogs) row.levels) (sym within) ∙ ap (λ one. levels_shown one row.levels) own

  -- the first of the namespaces that are there, or the catalogue
  first-shown : (paths : List (List (List ℕ))) → IsShownIn s catalog (first_or catalog.id (filter_map (namespace_at catalog.id s.content) paths))
  first-shown [] = inl catalog-is
  first-shown (path ∷ paths) = by (first-shown paths) (namespace_named catalog.id path s.content) refl
    where
      by : IsShownIn s catalog (first_or catalog.id (filter_map (namespace_at catalog.id s.content) paths))
          → (found : Option NamespaceRow) → namespace_named catalog.id path s.content ≡ found
          → IsShownIn s catalog (first_or catalog.id (cons_option (option_map (λ (row : NamespaceRow). securable.Namespace row.id) found) (filter_map (namespace_at catalog.id s.content) paths)))
      by rest None found = rest
      by rest (Some row) found = inr (row.levels, namespace-is path row found)

  path-shown : (levels : List (List ℕ)) → IsShownIn s catalog (deepest catalog.id levels s.content)
  path-shown levels = first-shown (reverse (lineage levels))

  -- a table of a namespace that was found
  table-is : (path : List (List ℕ)) (called : List ℕ) (upper : NamespaceRow) (row : TableRow) → namespace_named catalog.id path s.content ≡ Some upper → table_named upper.id called s.content.tables ≡ Some row
      → shown s (securable.Table row.id) ≡ name.Table catalog.name (record { namespace = upper.levels; name = row.name })
  table-is path called upper row there found =
      let test = found-passes (is_namespace_named catalog.id path) s.content.namespaces upper there in
      let within : catalog.id ≡ upper.catalog = eqb-true catalog.id upper.catalog (and_parts (nat_eq catalog.id upper.catalog) (same_levels path upper.levels) test).0 in
      let upper_own = found-own namespace_id (is_namespace_named catalog.id path) upper s.content.namespaces (IdsDiffer-rising namespace_id s.content.namespaces sound.orderly.content.namespaces.rise) there in
      let named = found-passes (is_table_named upper.id called) s.content.tables row found in
      let inside : upper.id ≡ row.namespace = eqb-true upper.id row.namespace (and_parts (nat_eq upper.id row.namespace) (bytes_eq called row.name) named).0 in
      let row_own = found-own table_id (is_table_named upper.id called) row s.content.tables (IdsDiffer-rising table_id s.content.tables sound.orderly.content.tables.numbered.rise) found in
      ap (table_shown s) row_own
      ∙ ap (table_shown_in s row.name) (ap (λ id. row_of namespace_id id s.content.namespaces) (sym inside) ∙ upper_own)
      ∙ ap (λ id. identifier_shown (row_of catalog_id id s.content.catalogs) upper.levels row.name) (sym within)
      ∙ ap (λ one. identifier_shown one upper.levels row.name) own

  table-shown : (identifier : Identifier) → IsTableShownIn s catalog (deepest_of_table catalog.id identifier.namespace identifier.name s.content)
  table-shown identifier = by (namespace_named catalog.id identifier.namespace s.content) refl
    where
      of : (upper : NamespaceRow) → namespace_named catalog.id identifier.namespace s.content ≡ Some upper → (found : Option TableRow) → table_named upper.id identifier.name s.content.tables ≡ found
          → IsTableShownIn s catalog (table_or (deepest catalog.id identifier.namespace s.content) found)
      of upper there None missing = inl (path-shown identifier.namespace)
      of upper there (Some row) found =
          let named : Identifier = record { namespace = upper.levels; name = row.name } in
          inr (named, table-is identifier.namespace identifier.name upper row there found)

      by : (upper : Option NamespaceRow) → namespace_named catalog.id identifier.namespace s.content ≡ upper
          → IsTableShownIn s catalog (table_or (deepest catalog.id identifier.namespace s.content) (option_and_then (λ (row : NamespaceRow). table_named row.id identifier.name s.content.tables) upper))
      by None missing = inl (path-shown identifier.namespace)
      by (Some upper) there = of upper there (table_named upper.id identifier.name s.content.tables) refl

  -- a view of a namespace that was found
  view-is : (path : List (List ℕ)) (called : List ℕ) (upper : NamespaceRow) (row : ViewRow) → namespace_named catalog.id path s.content ≡ Some upper → view_named upper.id called s.content.views ≡ Some row
      → shown s (securable.View row.id) ≡ name.View catalog.name (record { namespace = upper.levels; name = row.name })
  view-is path called upper row there found =
      let test = found-passes (is_namespace_named catalog.id path) s.content.namespaces upper there in
      let within : catalog.id ≡ upper.catalog = eqb-true catalog.id upper.catalog (and_parts (nat_eq catalog.id upper.catalog) (same_levels path upper.levels) test).0 in
      let upper_own = found-own namespace_id (is_namespace_named catalog.id path) upper s.content.namespaces (IdsDiffer-rising namespace_id s.content.namespaces sound.orderly.content.namespaces.rise) there in
      let named = found-passes (is_view_named upper.id called) s.content.views row found in
      let inside : upper.id ≡ row.namespace = eqb-true upper.id row.namespace (and_parts (nat_eq upper.id row.namespace) (bytes_eq called row.name) named).0 in
      let row_own = found-own view_id (is_view_named upper.id called) row s.content.views (IdsDiffer-rising view_id s.content.views sound.orderly.content.views.numbered.rise) found in
      ap (view_shown s) row_own
      ∙ ap (view_shown_in s row.name) (ap (λ id. row_of namespace_id id s.content.namespaces) (sym inside) ∙ upper_own)
      ∙ ap (λ id. view_name_shown (row_of catalog_id id s.content.catalogs) upper.levels row.name) (sym within)
      ∙ ap (λ one. view_name_shown one upper.levels row.name) own

  view-shown : (identifier : Identifier) → IsViewShownIn s catalog (deepest_of_view catalog.id identifier.namespace identifier.name s.content)
  view-shown identifier = by (namespace_named catalog.id identifier.namespace s.content) refl
    where
      of : (upper : NamespaceRow) → namespace_named catalog.id identifier.namespace s.content ≡ Some upper → (found : Option ViewRow) → view_named upper.id identifier.name s.content.views ≡ found
          → IsViewShownIn s catalog (view_or (deepest catalog.id identifier.namespace s.content) found)
      of upper there None missing = inl (path-shown identifier.namespace)
      of upper there (Some row) found =
          let named : Identifier = record { namespace = upper.levels; name = row.name } in
          inr (named, view-is identifier.namespace identifier.name upper row there found)

      by : (upper : Option NamespaceRow) → namespace_named catalog.id identifier.namespace s.content ≡ upper
          → IsViewShownIn s catalog (view_or (deepest catalog.id identifier.namespace s.content) (option_and_then (λ (row : NamespaceRow). view_named row.id identifier.name s.content.views) upper))
      by None missing = inl (path-shown identifier.namespace)
      by (Some upper) there = of upper there (view_named upper.id identifier.name s.content.views) refl

  parent-shown : (privilege : Privilege) (parent : Option (List (List ℕ))) → AreShown (IsShownIn s catalog) (on_parent s privilege parent catalog)
  parent-shown privilege None = (inl catalog-is, tt)
  parent-shown privilege (Some parent) = (path-shown parent, tt)

pub needs-shown : NeedsAreShown
needs-shown s text catalog privilege sound found =
    let own = found-own catalog_id (is_catalog_named text) catalog s.content.catalogs (IdsDiffer-rising catalog_id s.content.catalogs sound.orderly.content.catalogs.rise) found in (
      (inl (catalog-is s sound catalog own), tt),
      λ levels. (path-shown s sound catalog own levels, tt),
      λ identifier. (table-shown s sound catalog own identifier, tt),
      λ identifier. (view-shown s sound catalog own identifier, tt),
      parent-shown s sound catalog own privilege,
    )

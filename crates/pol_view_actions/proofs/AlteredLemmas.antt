-- Views that were found, and the rows once one is altered.
use Rattle.std.proofs.Common.{◌≡◌, ℕ, ◌≤◌, ◌^◌, nat_lt, true, false, List, Option, None, Some, is_some, option_and_then, nat_eq, refl, sym, ap, ◌∙◌}
use Rattle.std.specs.List.{list_any}
use Rattle.std.specs.Option.{option_map}
use Rattle.std.specs.Str.{bytes_eq}
use Rattle.std.proofs.lemmas.Bool.{and_parts, eqb-true, ltb-false}
use Rattle.pol_access.proofs.KeptLemmas.{found-passes}
use Rattle.pol_tables.specs.Table.{has_id, knows, row_of, IdsDiffer}
use Rattle.pol_tables.proofs.NamedLemmas.{each-own}
use Rattle.pol_tables.proofs.RisingLemmas.{IdsDiffer-rising}
use Rattle.pol_tables.proofs.TableLemmas.{is_some-row_of}
use Rattle.pol_names.specs.declared.identifier.Identifier.{Identifier}
use Rattle.pol_commands.specs.declared.reply.Quantity.TheVariants as quantity
use Rattle.pol_commands.specs.declared.reply.Refusal.TheVariants.{Limit}
use Rattle.pol_content.specs.Chain.{view_at}
use Rattle.pol_content.specs.Content.{catalog_named, is_namespace_named, namespace_id, namespace_named, same_levels}
use Rattle.pol_content.specs.Ties.{catalog_of_namespace}
use Rattle.pol_content.specs.declared.rows.CatalogRow.{CatalogRow}
use Rattle.pol_content.specs.declared.rows.NamespaceRow.{NamespaceRow}
use Rattle.pol_content.proofs.SoundLemmas.{each-fails, none-found}
use Rattle.pol_view_rows.specs.Views.{is_view_named, view_id, view_named}
use Rattle.pol_view_rows.specs.declared.row.ViewRow.{ViewRow}
use Rattle.pol_state.specs.Rows.{Rows}
use Rattle.pol_state.specs.Sound.{IsSound}
use Rattle.pol_state.proofs.BoundsLemmas.{each-within}
use Rattle.pol_rules.specs.Prologues.{view_row_at}
use Rattle.pol_rules.proofs.FoundLemmas.{found-holds}
use Rattle.pol_rules.proofs.RulesLemmas.{refused-not}

module _ (s : Rows) (sound : IsSound s) where
  namespaces-differ : IdsDiffer namespace_id s.content.namespaces
  namespaces-differ = IdsDiffer-rising namespace_id s.content.namespaces sound.orderly.content.namespaces.rise

  views-differ : IdsDiffer view_id s.content.views
  views-differ = IdsDiffer-rising view_id s.content.views sound.orderly.content.views.numbered.rise

  -- a namespace that was found is there, in the catalogue in which it was sought
  pub namespace-own : (catalog : ℕ) (levels : List (List ℕ)) (row : NamespaceRow) → namespace_named catalog levels s.content ≡ Some row → row_of namespace_id row.id s.content.namespaces ≡ Some row
  namespace-own catalog levels row found =
      found-holds (λ one. row_of namespace_id (namespace_id one) s.content.namespaces ≡ Some one) (is_namespace_named catalog levels) s.content.namespaces row (each-own namespace_id s.content.namespaces namespaces-differ) found

  pub namespace-there : (catalog : ℕ) (levels : List (List ℕ)) (row : NamespaceRow) → namespace_named catalog levels s.content ≡ Some row → knows namespace_id row.id s.content.namespaces ≡ true
  namespace-there catalog levels row found =
      sym (is_some-row_of namespace_id row.id s.content.namespaces) ∙ ap is_some (namespace-own catalog levels row found)

  pub namespace-lies : (catalog : ℕ) (levels : List (List ℕ)) (row : NamespaceRow) → namespace_named catalog levels s.content ≡ Some row → catalog_of_namespace row.id s.content ≡ Some catalog
  namespace-lies catalog levels row found =
      let passes = found-passes (is_namespace_named catalog levels) s.content.namespaces row found in
      let parts = and_parts (nat_eq catalog row.catalog) (same_levels levels row.levels) passes in
      ap (option_map (λ (one : NamespaceRow). one.catalog)) (namespace-own catalog levels row found) ∙ ap Some (sym (eqb-true catalog row.catalog parts.0))

  -- and so does a view
  pub view-lies : (catalog : ℕ) (levels : List (List ℕ)) (name : List ℕ) (row : ViewRow) → view_at catalog levels name s.content ≡ Some row → catalog_of_namespace row.namespace s.content ≡ Some catalog
  view-lies catalog levels name row found = by (namespace_named catalog levels s.content) refl found
    where
      by : (upper : Option NamespaceRow) → namespace_named catalog levels s.content ≡ upper
          → option_and_then (λ (namespace : NamespaceRow). view_named namespace.id name s.content.views) upper ≡ Some row → catalog_of_namespace row.namespace s.content ≡ Some catalog
      by None is none = let contrary : None ≡ Some row = none in cc
      by (Some namespace) is there =
          let passes = found-passes (is_view_named namespace.id name) s.content.views row there in
          let parts = and_parts (nat_eq namespace.id row.namespace) (bytes_eq name row.name) passes in
          ap (λ id. catalog_of_namespace id s.content) (sym (eqb-true namespace.id row.namespace parts.0)) ∙ namespace-lies catalog levels namespace is

  -- a view that was found is the one of its id
  view-in : (name : List ℕ) (row : ViewRow) (found : Option NamespaceRow) → option_and_then (λ (namespace : NamespaceRow). view_named namespace.id name s.content.views) found ≡ Some row → row_of view_id row.id s.content.views ≡ Some row
  view-in name row None found = let contrary : None ≡ Some row = found in cc
  view-in name row (Some namespace) found =
      found-holds (λ one. row_of view_id (view_id one) s.content.views ≡ Some one) (is_view_named namespace.id name) s.content.views row (each-own view_id s.content.views views-differ) found

  view-of : (identifier : Identifier) (row : ViewRow) (found : Option CatalogRow) → option_and_then (λ (catalog : CatalogRow). view_at catalog.id identifier.namespace identifier.name s.content) found ≡ Some row → row_of view_id row.id s.content.views ≡ Some row
  view-of identifier row None found = let contrary : None ≡ Some row = found in cc
  view-of identifier row (Some catalog) found =
      view-in identifier.name row (namespace_named catalog.id identifier.namespace s.content) found

  pub view-own : (name : List ℕ) (identifier : Identifier) (row : ViewRow) → view_row_at s name identifier ≡ Some row → row_of view_id row.id s.content.views ≡ Some row
  unfolding view_row_at
  view-own name identifier row found = view-of identifier row (catalog_named name s.content) found

  pub version_within : (row : ViewRow) → row_of view_id row.id s.content.views ≡ Some row → row.version ≤ 2 ^ 62
  version_within row own =
      let none = refused-not (list_any (λ (one : ViewRow). nat_lt (2 ^ 62) one.version) s.content.views) (Limit quantity.Version (2 ^ 62)) (each-within s sound).1.1.1.1.1.1.1.1.1.1.1.1.1.1.1.1.1.1.1.1.1.1.1.1.1.1.0 in
      ltb-false (2 ^ 62) row.version (found-holds (λ (one : ViewRow). nat_lt (2 ^ 62) one.version ≡ false) (has_id view_id row.id) s.content.views row (each-fails (λ (one : ViewRow). nat_lt (2 ^ 62) one.version) s.content.views none) own)

-- a view that is there doesn't have a name that none has
pub other-name : (rows : List ViewRow) (row : ViewRow) (namespace : ℕ) (name : List ℕ) → row_of view_id row.id rows ≡ Some row → view_named namespace name rows ≡ None → is_view_named namespace name row ≡ false
other-name rows row namespace name there free =
    found-holds (λ one. is_view_named namespace name one ≡ false) (has_id view_id row.id) rows row (each-fails (is_view_named namespace name) rows (none-found (is_view_named namespace name) rows free)) there

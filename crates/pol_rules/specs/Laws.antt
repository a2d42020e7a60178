-- Laws of rules.
use Rattle.std.specs.Prelude.{◌≡◌, ◌⊎◌, ℕ, List, Option, Some}
use Rattle.std.specs.List.{AllByRecursion}
use Rattle.pol_access.specs.declared.privilege.Privilege.{Privilege}
use Rattle.pol_access.specs.declared.securable.Securable.{Securable}
use Rattle.pol_commands.specs.declared.securables.SecurableName.TheVariants as name
use Rattle.pol_content.specs.Content.{catalog_named}
use Rattle.pol_content.specs.declared.rows.CatalogRow.{CatalogRow}
use Rattle.pol_names.specs.declared.identifier.Identifier.{Identifier}
use Rattle.pol_state.specs.Rows.{Rows}
use Rattle.pol_state.specs.Sound.{IsSound}
use Rattle.pol_rules.specs.Needs.{on_catalog, on_parent, on_path, on_table, on_view, shown}
use Rattle.pol_rules.specs.declared.needs.Need.{Need}

-- a securable is shown as the catalogue, or as a namespace in it
abbrev pub IsShownIn : Rows → CatalogRow → Securable → Type 0
IsShownIn s catalog on =
    (shown s on ≡ name.Catalog catalog.name)
    ⊎ ((levels : List (List ℕ)) × (shown s on ≡ name.Namespace catalog.name levels))

-- or as a table in it
abbrev pub IsTableShownIn : Rows → CatalogRow → Securable → Type 0
IsTableShownIn s catalog on =
    IsShownIn s catalog on
    ⊎ ((identifier : Identifier) × (shown s on ≡ name.Table catalog.name identifier))

-- or as a view in it
abbrev pub IsViewShownIn : Rows → CatalogRow → Securable → Type 0
IsViewShownIn s catalog on =
    IsShownIn s catalog on
    ⊎ ((identifier : Identifier) × (shown s on ≡ name.View catalog.name identifier))

-- and so is what each of these needs is on
abbrev pub AreShown : (Securable → Type 0) → List Need → Type 0
AreShown Is needs = AllByRecursion (λ need. Is need.on) needs

-- needs on a catalogue that is there, on a path in it and on a parent are shown so, and those on a table's path and on
-- a view's
abbrev pub NeedsAreShown : Type 0
NeedsAreShown =
    (s : Rows) (text : List ℕ) (catalog : CatalogRow) (privilege : Privilege) → IsSound s → catalog_named text s.content ≡ Some catalog
    → AreShown (IsShownIn s catalog) (on_catalog privilege catalog)
    × ((levels : List (List ℕ)) → AreShown (IsShownIn s catalog) (on_path s privilege levels catalog))
    × ((identifier : Identifier) → AreShown (IsTableShownIn s catalog) (on_table s privilege identifier catalog))
    × ((identifier : Identifier) → AreShown (IsViewShownIn s catalog) (on_view s privilege identifier catalog))
    × ((parent : Option (List (List ℕ))) → AreShown (IsShownIn s catalog) (on_parent s privilege parent catalog))

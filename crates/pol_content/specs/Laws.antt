-- Laws of chains.
use Rattle.std.specs.Prelude.{◌≡◌, ◌⊎◌, ◌↔◌, ◌-◌, ◌<◌, ℕ, List, [], length, take, Contains, Some, None}
use Rattle.std.specs.List.{AllByRecursion}
use Rattle.pol_access.specs.declared.securable.Securable.{Securable}
use Rattle.pol_access.specs.declared.securable.Securable.TheVariants.{Catalog, Namespace}
use Rattle.pol_tables.specs.Table.{IdsDiffer}
use Rattle.pol_content.specs.Chain.{Encloses, chain_of, deepest}
use Rattle.pol_content.specs.Content.{ContentRows, NamespaceNamesDiffer, namespace_id, namespace_named}
use Rattle.pol_content.specs.declared.rows.NamespaceRow.{NamespaceRow}

-- a chain has the securable and what contains it, and nothing else, where each namespace has a level
abbrev pub ChainsHaveWhatContains : Type 0
ChainsHaveWhatContains =
    (content : ContentRows) (of one : Securable) → IdsDiffer namespace_id content.namespaces → NamespaceNamesDiffer content.namespaces
    → AllByRecursion (λ row. 0 < length row.levels) content.namespaces → Contains (chain_of of content) one ↔ ((one ≡ of) ⊎ Encloses content one of)

-- the deepest part that is there of a path is its namespace, or else that of the levels without the last; of no levels
-- it is the catalogue
abbrev pub DeepestPartsAreFirst : Type 0
DeepestPartsAreFirst =
    (catalog : ℕ) (levels : List (List ℕ)) (content : ContentRows)
    → (0 < length levels → (row : NamespaceRow) → namespace_named catalog levels content ≡ Some row → deepest catalog levels content ≡ Namespace row.id)
    × (0 < length levels → namespace_named catalog levels content ≡ None → deepest catalog levels content ≡ deepest catalog (take (length levels - 1) levels) content)
    × (deepest catalog [] content ≡ Catalog catalog)

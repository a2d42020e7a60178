-- What contains a securable, its chain, and the deepest part of a path that is there.
use Rattle.std.specs.Prelude.{◌≡◌, ◌⊎◌, ℕ, true, List, [], ◌∷◌, ◌++◌, reverse, filter_map, Option, Some, None, option_and_then, option_map}
use Rattle.pol_access.specs.declared.securable.Securable.{Securable}
use Rattle.pol_access.specs.declared.securable.Securable.TheVariants.{Realm, Catalog, Namespace, Table, View}
use Rattle.pol_names.specs.Namespace.{parent_of}
use Rattle.pol_table_rows.specs.Tables.{table_id, table_named}
use Rattle.pol_table_rows.specs.declared.row.TableRow.{TableRow}
use Rattle.pol_tables.specs.Table.{row_of}
use Rattle.pol_view_rows.specs.Views.{view_id, view_named}
use Rattle.pol_view_rows.specs.declared.row.ViewRow.{ViewRow}
use Rattle.pol_content.specs.Content.{ContentRows, lies_below, lineage, namespace_id, namespace_named}
use Rattle.pol_content.specs.declared.rows.NamespaceRow.{NamespaceRow}

-- a catalogue contains its namespaces, and a namespace the deeper ones of its catalogue whose levels its own begin. On
-- the realm one privilege is used, and on the realm alone, so here it contains nothing
abbrev pub EnclosesRow : ContentRows → Securable → NamespaceRow → Type 0
EnclosesRow content Realm row = ⊥
EnclosesRow content (Catalog id) row = id ≡ row.catalog
EnclosesRow content (Namespace id) row =
    (upper : NamespaceRow) × (row_of namespace_id id content.namespaces ≡ Some upper) × (lies_below upper row ≡ true)
EnclosesRow content (Table id) row = ⊥
EnclosesRow content (View id) row = ⊥

-- one securable contains a namespace that is there
abbrev pub EnclosesNamespace : ContentRows → Securable → ℕ → Type 0
EnclosesNamespace content upper id =
    (row : NamespaceRow) × (row_of namespace_id id content.namespaces ≡ Some row) × EnclosesRow content upper row

-- one securable contains another, which is there: a namespace, or a table or a view, which its namespace contains and
-- what contains that one
abbrev pub Encloses : ContentRows → Securable → Securable → Type 0
Encloses content upper Realm = ⊥
Encloses content upper (Catalog id) = ⊥
Encloses content upper (Namespace id) = EnclosesNamespace content upper id
Encloses content upper (Table id) =
    (row : TableRow) × (row_of table_id id content.tables ≡ Some row) × ((upper ≡ Namespace row.namespace) ⊎ EnclosesNamespace content upper row.namespace)
Encloses content upper (View id) =
    (row : ViewRow) × (row_of view_id id content.views ≡ Some row) × ((upper ≡ Namespace row.namespace) ⊎ EnclosesNamespace content upper row.namespace)

-- the namespace of a catalogue with these levels, as a securable
abbrev pub namespace_at : ℕ → ContentRows → List (List ℕ) → Option Securable
namespace_at catalog content path = option_map (λ row. Namespace row.id) (namespace_named catalog path content)

-- the namespace of these levels and those in which it stands, where they are there, from the deepest out
abbrev pub namespaces_out : ℕ → List (List ℕ) → ContentRows → List Securable
namespaces_out catalog levels content = filter_map (namespace_at catalog content) (reverse (lineage levels))

-- the namespaces out of a parent, where there is one
abbrev pub parents_out : ℕ → Option (List (List ℕ)) → ContentRows → List Securable
parents_out catalog None content = []
parents_out catalog (Some parent) content = namespaces_out catalog parent content

-- what contains a namespace, from the nearest out: the namespaces in which it stands, and its catalogue
abbrev pub uppers_of : NamespaceRow → ContentRows → List Securable
uppers_of row content = parents_out row.catalog (parent_of row.levels) content ++ Catalog row.catalog ∷ []

abbrev pub uppers_of_found : Option NamespaceRow → ContentRows → List Securable
uppers_of_found None content = []
uppers_of_found (Some row) content = uppers_of row content

-- a namespace and what contains it
abbrev pub namespace_chain : ℕ → ContentRows → List Securable
namespace_chain id content = Namespace id ∷ uppers_of_found (row_of namespace_id id content.namespaces) content

-- what contains a table: its namespace, and what contains that one
abbrev pub table_uppers : Option TableRow → ContentRows → List Securable
table_uppers None content = []
table_uppers (Some row) content = namespace_chain row.namespace content

-- a table and what contains it
abbrev pub table_chain : ℕ → ContentRows → List Securable
table_chain id content = Table id ∷ table_uppers (row_of table_id id content.tables) content

-- what contains a view, and a view and what contains it
abbrev pub view_uppers : Option ViewRow → ContentRows → List Securable
view_uppers None content = []
view_uppers (Some row) content = namespace_chain row.namespace content

abbrev pub view_chain : ℕ → ContentRows → List Securable
view_chain id content = View id ∷ view_uppers (row_of view_id id content.views) content

-- a securable and all that contain it, itself first and then outwards
abbrev pub chain_of : Securable → ContentRows → List Securable
chain_of Realm content = Realm ∷ []
chain_of (Catalog id) content = Catalog id ∷ []
chain_of (Namespace id) content = namespace_chain id content
chain_of (Table id) content = table_chain id content
chain_of (View id) content = view_chain id content

-- the first of these namespaces, or the catalogue where there is none
abbrev pub first_or : ℕ → List Securable → Securable
first_or catalog [] = Catalog catalog
first_or catalog (namespace ∷ namespaces) = namespace

-- the deepest part of a path that is there: the namespace of the most of its first levels, else the catalogue
abbrev pub deepest : ℕ → List (List ℕ) → ContentRows → Securable
deepest catalog levels content = first_or catalog (namespaces_out catalog levels content)

-- the table of a name in the namespace of these levels
abbrev pub table_at : ℕ → List (List ℕ) → List ℕ → ContentRows → Option TableRow
table_at catalog levels name content =
    option_and_then (λ (row : NamespaceRow). table_named row.id name content.tables) (namespace_named catalog levels content)

-- a table that was found, or else a part of its path
abbrev pub table_or : Securable → Option TableRow → Securable
table_or part None = part
table_or part (Some row) = Table row.id

-- the deepest part of a table's path that is there: the table, or else that of its namespace's path
abbrev pub deepest_of_table : ℕ → List (List ℕ) → List ℕ → ContentRows → Securable
deepest_of_table catalog levels name content = table_or (deepest catalog levels content) (table_at catalog levels name content)

-- the view of a name in the namespace of these levels
abbrev pub view_at : ℕ → List (List ℕ) → List ℕ → ContentRows → Option ViewRow
view_at catalog levels name content =
    option_and_then (λ (row : NamespaceRow). view_named row.id name content.views) (namespace_named catalog levels content)

-- a view that was found, or else a part of its path
abbrev pub view_or : Securable → Option ViewRow → Securable
view_or part None = part
view_or part (Some row) = View row.id

-- the deepest part of a view's path that is there: the view, or else that of its namespace's path
abbrev pub deepest_of_view : ℕ → List (List ℕ) → List ℕ → ContentRows → Securable
deepest_of_view catalog levels name content = view_or (deepest catalog levels content) (view_at catalog levels name content)

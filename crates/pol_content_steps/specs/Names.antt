-- The names that tables and views of a sound state may get.
use Rattle.std.specs.Prelude.{ℕ, Bool, ◌&&◌, false, nat_eq, List, Option, Some, None, is_none}
use Rattle.pol_content.specs.Content.{ContentRows, namespace_id}
use Rattle.pol_content.specs.declared.rows.NamespaceRow.{NamespaceRow}
use Rattle.pol_table_rows.specs.Tables.{table_named}
use Rattle.pol_tables.specs.Table.{row_of}
use Rattle.pol_view_rows.specs.Views.{view_named}

-- two namespaces that are there and lie in one catalogue
abbrev pub are_beside : Option NamespaceRow → Option NamespaceRow → Bool
are_beside None right = false
are_beside (Some left) None = false
are_beside (Some left) (Some right) = nat_eq left.catalog right.catalog

abbrev pub share_catalog : ℕ → ℕ → ContentRows → Bool
share_catalog left right content =
    are_beside (row_of namespace_id left content.namespaces) (row_of namespace_id right content.namespaces)

-- a name that no table and no view of the namespace has
abbrev pub is_name_free : ℕ → List ℕ → ContentRows → Bool
is_name_free namespace name content =
    is_none (table_named namespace name content.tables) && is_none (view_named namespace name content.views)

-- a name in a namespace that what lies in another one may get: it stays in its catalogue
abbrev pub may_take_name : ℕ → ℕ → List ℕ → ContentRows → Bool
may_take_name before after name content = share_catalog before after content && is_name_free after name content

-- The keys by which rows of one kind are told apart.
use Rattle.std.specs.Prelude.{ℕ, List}
use Rattle.pol_content.specs.declared.rows.CatalogRow.{CatalogRow}
use Rattle.pol_content.specs.declared.rows.NamespaceRow.{NamespaceRow}
use Rattle.pol_table_rows.specs.declared.row.TableRow.{TableRow}
use Rattle.pol_view_rows.specs.declared.row.ViewRow.{ViewRow}
use Rattle.pol_sound_content.specs.declared.keys.LevelsKey.{LevelsKey}
use Rattle.pol_sound_content.specs.declared.keys.PartKey.{PartKey}

-- a name in what has an id, and the names of each kind
abbrev pub part_key : ℕ → List ℕ → PartKey
part_key within name = record { within = within; name = name }

abbrev pub catalog_key : CatalogRow → PartKey
catalog_key row = part_key 0 row.name

abbrev pub namespace_key : NamespaceRow → LevelsKey
namespace_key row = record { catalog = row.catalog; levels = row.levels }

abbrev pub table_key : TableRow → PartKey
table_key row = part_key row.namespace row.name

abbrev pub view_key : ViewRow → PartKey
view_key row = part_key row.namespace row.name

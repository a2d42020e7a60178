-- The conditions of sound catalogues, namespaces, tables and views as tests, each of which is passed exactly where its
-- condition holds. Of metadata no more is tested than the number of versions of a view.
use Rattle.std.specs.Prelude.{◌+◌, ℕ, Bool, true, not, ◌&&◌, ◌||◌, nat_le, List, length, Option, Some, None, is_none}
use Rattle.std.specs.List.{list_all, list_any}
use Rattle.std.specs.Str.{bytes_eq}
use Rattle.pol_content.specs.Content.{ContentRows, catalog_id, is_catalog_named, is_namespace_named, namespace_id}
use Rattle.pol_content.specs.Sound.{is_taken}
use Rattle.pol_content.specs.declared.rows.NamespaceRow.{NamespaceRow}
use Rattle.pol_locations.specs.Location.{is_overlap, location_text, parse_refusal}
use Rattle.pol_names.specs.Namespace.{parent_of}
use Rattle.pol_table_rows.specs.Tables.{is_table_named, table_id}
use Rattle.pol_table_rows.specs.declared.row.TableRow.{TableRow}
use Rattle.pol_tables.specs.Table.{knows}
use Rattle.pol_view_rows.specs.Views.{is_view_named, view_id}
use Rattle.pol_view_rows.specs.declared.row.ViewRow.{ViewRow}
use Rattle.pol_sound_access.specs.Judged.{all_differ, rises}

-- catalogues and namespaces
abbrev pub content_numbered : ℕ → ContentRows → Bool
content_numbered next_id content =
    rises catalog_id 1 next_id content.catalogs
    && (rises namespace_id 1 next_id content.namespaces && (rises table_id 1 next_id content.tables && rises view_id 1 next_id content.views))

abbrev pub content_named : ContentRows → Bool
content_named content =
    all_differ (λ left right. is_catalog_named left.name right) content.catalogs
    && (all_differ (λ left right. is_namespace_named left.catalog left.levels right) content.namespaces
    && (all_differ (λ left right. is_table_named left.namespace left.name right) content.tables
    && all_differ (λ left right. is_view_named left.namespace left.name right) content.views))

abbrev pub is_namespace_there : ContentRows → NamespaceRow → Bool
is_namespace_there content row = not (knows catalog_id row.id content.catalogs) && knows catalog_id row.catalog content.catalogs

abbrev pub is_parent_there : ContentRows → ℕ → Option (List (List ℕ)) → Bool
is_parent_there content catalog None = true
is_parent_there content catalog (Some parent) = list_any (is_namespace_named catalog parent) content.namespaces

abbrev pub has_parent : ContentRows → NamespaceRow → Bool
has_parent content row = is_parent_there content row.catalog (parent_of row.levels)

-- tables
abbrev pub is_table_there : ContentRows → TableRow → Bool
is_table_there content row =
    not (knows catalog_id row.id content.catalogs || knows namespace_id row.id content.namespaces)
    && (knows namespace_id row.namespace content.namespaces && nat_le row.moves (row.version + 1))

abbrev pub is_placed : TableRow → Bool
is_placed row = bytes_eq row.metadata.location (location_text row.location)

-- views
abbrev pub is_view_there : ContentRows → ViewRow → Bool
is_view_there content row =
    not (is_taken row.id content)
    && (not (list_any (is_table_named row.namespace row.name) content.tables)
    && (knows namespace_id row.namespace content.namespaces && nat_le (length row.metadata.versions) 100))

abbrev pub is_located : ViewRow → Bool
is_located row = is_none (parse_refusal row.metadata.location)

abbrev pub content_known : ContentRows → Bool
content_known content =
    list_all (is_namespace_there content) content.namespaces && (list_all (is_table_there content) content.tables && list_all (is_view_there content) content.views)

abbrev pub content_placed : ContentRows → Bool
content_placed content =
    list_all (has_parent content) content.namespaces
    && (list_all is_placed content.tables
    && (list_all is_located content.views && all_differ (λ left right. is_overlap left.location right.location) content.tables))

unfoldable pub is_sound_content : ℕ → ContentRows → Bool
is_sound_content next_id content = content_numbered next_id content && (content_known content && (content_named content && content_placed content))

-- Keys tell rows apart as their names and levels do.
use Rattle.std.proofs.Common.{◌≡◌, ℕ, Bool, true, List, nat_eq, ◌&&◌, refl, sym, ap, ◌∙◌}
use Rattle.std.specs.Prelude.{Decides}
use Rattle.std.specs.Cmp.Lexicographic.{pointwise}
use Rattle.std.specs.Str.{bytes_eq}
use Rattle.std.proofs.lemmas.Bool.{and_from, and_parts, eq-eqb, eqb-true}
use Rattle.std.proofs.lemmas.Bool.Decides.{Decides-eqb}
use Rattle.std.proofs.lemmas.Slice.Eq.{bytes_eq-Decides, slice_eq-Decides}
use Rattle.pol_content.specs.Content.{is_catalog_named, is_namespace_named, same_levels}
use Rattle.pol_content.specs.declared.rows.CatalogRow.{CatalogRow}
use Rattle.pol_content.specs.declared.rows.NamespaceRow.{NamespaceRow}
use Rattle.pol_table_rows.specs.Tables.{is_table_named}
use Rattle.pol_table_rows.specs.declared.row.TableRow.{TableRow}
use Rattle.pol_tables.specs.Same.{same}
use Rattle.pol_view_rows.specs.Views.{is_view_named}
use Rattle.pol_view_rows.specs.declared.row.ViewRow.{ViewRow}
use Rattle.pol_sound_access.specs.Judged.{all_differ}
use Rattle.pol_sound_access.proofs.KeyLemmas.{differ-alike, texts-told, told-by}
use Rattle.pol_sound_content.specs.Keys.{catalog_key, namespace_key, part_key, table_key, view_key}
use Rattle.pol_sound_content.specs.contracts.keys.LevelsKey as levelled
use Rattle.pol_sound_content.specs.contracts.keys.PartKey as part
use Rattle.pol_sound_content.specs.declared.keys.LevelsKey.{LevelsKey}
use Rattle.pol_sound_content.specs.declared.keys.PartKey.{PartKey}

pub catalogs_told : (rows : List CatalogRow) → all_differ (λ left right. same part.the_row.coded (catalog_key left) (catalog_key right)) rows ≡ all_differ (λ left right. is_catalog_named left.name right) rows
catalogs_told =
    differ-alike (λ left right. same part.the_row.coded (catalog_key left) (catalog_key right)) (λ left right. is_catalog_named left.name right) (λ left right. texts-told part.the_row.coded left.name right.name (part_key 0) (λ (key : PartKey). key.name) (λ one. refl))

part-told : (within other : ℕ) (name another : List ℕ) → same part.the_row.coded (part_key within name) (part_key other another) ≡ (nat_eq within other && bytes_eq name another)
part-told within other name another =
    told-by part.the_row.coded (part_key within name) (part_key other another) (nat_eq within other && bytes_eq name another)
    (λ is. let both = and_parts (nat_eq within other) (bytes_eq name another) is in λ i. part_key (eqb-true within other both.0 i) ((bytes_eq-Decides name another).0 both.1 i))
    (λ is. and_from (nat_eq within other) (bytes_eq name another) (eq-eqb within other (ap (λ (key : PartKey). key.within) is)) ((bytes_eq-Decides name another).1 (ap (λ (key : PartKey). key.name) is)))

pub tables_told : (rows : List TableRow) → all_differ (λ left right. same part.the_row.coded (table_key left) (table_key right)) rows ≡ all_differ (λ left right. is_table_named left.namespace left.name right) rows
tables_told =
    differ-alike (λ left right. same part.the_row.coded (table_key left) (table_key right)) (λ left right. is_table_named left.namespace left.name right) (λ left right. part-told left.namespace right.namespace left.name right.name)

pub views_told : (rows : List ViewRow) → all_differ (λ left right. same part.the_row.coded (view_key left) (view_key right)) rows ≡ all_differ (λ left right. is_view_named left.namespace left.name right) rows
views_told =
    differ-alike (λ left right. same part.the_row.coded (view_key left) (view_key right)) (λ left right. is_view_named left.namespace left.name right) (λ left right. part-told left.namespace right.namespace left.name right.name)

levels-decide : (left right : List (List ℕ)) → Decides (same_levels left right) (left ≡ right)
levels-decide left right =
    slice_eq-Decides (λ one other. slice_eq-Decides Decides-eqb one other (pointwise nat_eq one other) refl) left right (same_levels left right) refl

namespace-told : (left right : NamespaceRow) → same levelled.the_row.coded (namespace_key left) (namespace_key right) ≡ is_namespace_named left.catalog left.levels right
namespace-told left right =
    told-by levelled.the_row.coded (namespace_key left) (namespace_key right) (is_namespace_named left.catalog left.levels right)
    (λ is. let both = and_parts (nat_eq left.catalog right.catalog) (same_levels left.levels right.levels) is in λ i. record { catalog = eqb-true left.catalog right.catalog both.0 i; levels = (levels-decide left.levels right.levels).0 both.1 i })
    (λ is. and_from (nat_eq left.catalog right.catalog) (same_levels left.levels right.levels) (eq-eqb left.catalog right.catalog (ap (λ (key : LevelsKey). key.catalog) is)) ((levels-decide left.levels right.levels).1 (ap (λ (key : LevelsKey). key.levels) is)))

pub namespaces_told : (rows : List NamespaceRow) → all_differ (λ left right. same levelled.the_row.coded (namespace_key left) (namespace_key right)) rows ≡ all_differ (λ left right. is_namespace_named left.catalog left.levels right) rows
namespaces_told =
    differ-alike (λ left right. same levelled.the_row.coded (namespace_key left) (namespace_key right)) (λ left right. is_namespace_named left.catalog left.levels right) namespace-told

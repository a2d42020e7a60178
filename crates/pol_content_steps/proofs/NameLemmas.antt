-- What it tells that a name is free, or may be taken.
use Rattle.std.proofs.Common.{◌≡◌, ℕ, true, false, List, Option, None, Some, is_none, is_some, option_map, refl, sym, ap, ◌∙◌}
use Rattle.std.specs.Option.{option_or}
use Rattle.std.proofs.lemmas.Bool.{and_parts, eqb-true}
use Rattle.pol_access_steps.proofs.CountersLemmas.{none-told}
use Rattle.pol_content.specs.Content.{ContentRows, namespace_id, part_named}
use Rattle.pol_content.specs.Ties.{catalog_of_namespace}
use Rattle.pol_content.specs.declared.rows.NamespaceRow.{NamespaceRow}
use Rattle.pol_content_steps.specs.Names.{are_beside, is_name_free, may_take_name, share_catalog}
use Rattle.pol_table_rows.specs.Tables.{table_id, table_named}
use Rattle.pol_tables.specs.Table.{knows, row_of}
use Rattle.pol_tables.proofs.TableLemmas.{is_some-row_of}
use Rattle.pol_view_rows.specs.Views.{view_id, view_named}

-- what it says that a name may be taken
pub record MayTake (before after : ℕ) (name : List ℕ) (content : ContentRows) : Type 0 where
  pub there : knows namespace_id after content.namespaces ≡ true
  pub catalog : catalog_of_namespace after content ≡ catalog_of_namespace before content
  pub free : part_named after name content ≡ None

pub free-told : (namespace : ℕ) (name : List ℕ) (content : ContentRows) → is_name_free namespace name content ≡ true → part_named namespace name content ≡ None
free-told namespace name content free =
    let table = table_named namespace name content.tables in
    let view = view_named namespace name content.views in
    let both = and_parts (is_none table) (is_none view) free in
    λ i. option_or (option_map table_id (none-told table both.0 i)) (option_map view_id (none-told view both.1 i))

abbrev catalog_in : Option NamespaceRow → Option ℕ
catalog_in found = option_map (λ (row : NamespaceRow). row.catalog) found

one-catalog : (left right : Option NamespaceRow) → are_beside left right ≡ true → (is_some right ≡ true) × (catalog_in right ≡ catalog_in left)
one-catalog None right beside = let contrary : false ≡ true = beside in cc
one-catalog (Some left) None beside = let contrary : false ≡ true = beside in cc
one-catalog (Some left) (Some right) beside = (refl, ap Some (sym (eqb-true left.catalog right.catalog beside)))

pub take-told : (before after : ℕ) (name : List ℕ) (content : ContentRows) → may_take_name before after name content ≡ true → MayTake before after name content
take-told before after name content may =
    let parts = and_parts (share_catalog before after content) (is_name_free after name content) may in
    let beside = one-catalog (row_of namespace_id before content.namespaces) (row_of namespace_id after content.namespaces) parts.0 in
    record {
      there = sym (is_some-row_of namespace_id after content.namespaces) ∙ beside.0;
      catalog = beside.1;
      free = free-told after name content parts.1;
    }

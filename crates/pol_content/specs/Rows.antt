-- What `==` tells of rows: only equal ones compare as equal.
use Rattle.std.specs.Prelude.{◌≡◌, ℕ, Bool, true, ◌&&◌, nat_eq, List}
use Rattle.std.specs.Cmp.Lexicographic.{pointwise, same_text}
use Rattle.std.proofs.Common.{sym}
use Rattle.std.proofs.lemmas.Bool.{and_parts, eqb-true}
use Rattle.pol_types.specs.Exact.{pointwise_exact}
use Rattle.pol_properties.specs.Properties.{same_pair, same_pair_exact}
use Rattle.pol_content.specs.declared.rows.CatalogRow.{CatalogRow}
use Rattle.pol_content.specs.declared.rows.NamespaceRow.{NamespaceRow}

-- whether two texts are the same, and two lists of texts, as segments and levels are
abbrev same_bytes : List ℕ → List ℕ → Bool
same_bytes left right = pointwise nat_eq left right

abbrev same_texts : List (List ℕ) → List (List ℕ) → Bool
same_texts left right = pointwise same_bytes left right

bytes_exact : (left right : List ℕ) → same_bytes left right ≡ true → left ≡ right
bytes_exact left right same = same_text left right (sym same)

texts_exact : (left right : List (List ℕ)) → same_texts left right ≡ true → left ≡ right
texts_exact = pointwise_exact bytes_exact

pub catalog_rows_exact : (left right : CatalogRow)
    → (nat_eq left.id right.id && (pointwise nat_eq left.name right.name && (pointwise (pointwise nat_eq) left.base right.base && (pointwise (pointwise (pointwise nat_eq)) left.allowed right.allowed && pointwise same_pair left.properties right.properties)))) ≡ true
    → left ≡ right
catalog_rows_exact left right same =
    let properties = pointwise same_pair left.properties right.properties in
    let allowed = pointwise same_texts left.allowed right.allowed in
    let base = same_texts left.base right.base in
    let name = same_bytes left.name right.name in
    let ids = and_parts (nat_eq left.id right.id) (name && (base && (allowed && properties))) same in
    let names = and_parts name (base && (allowed && properties)) ids.1 in
    let bases = and_parts base (allowed && properties) names.1 in
    let rests = and_parts allowed properties bases.1 in
    λ i. record {
      id = eqb-true left.id right.id ids.0 i;
      name = bytes_exact left.name right.name names.0 i;
      base = texts_exact left.base right.base bases.0 i;
      allowed = pointwise_exact texts_exact left.allowed right.allowed rests.0 i;
      properties = pointwise_exact same_pair_exact left.properties right.properties rests.1 i;
    }

pub namespace_rows_exact : (left right : NamespaceRow)
    → (nat_eq left.id right.id && (nat_eq left.catalog right.catalog && (pointwise (pointwise nat_eq) left.levels right.levels && pointwise same_pair left.properties right.properties))) ≡ true
    → left ≡ right
namespace_rows_exact left right same =
    let properties = pointwise same_pair left.properties right.properties in
    let levels = same_texts left.levels right.levels in
    let ids = and_parts (nat_eq left.id right.id) (nat_eq left.catalog right.catalog && (levels && properties)) same in
    let catalogs = and_parts (nat_eq left.catalog right.catalog) (levels && properties) ids.1 in
    let rests = and_parts levels properties catalogs.1 in
    λ i. record {
      id = eqb-true left.id right.id ids.0 i;
      catalog = eqb-true left.catalog right.catalog catalogs.0 i;
      levels = texts_exact left.levels right.levels rests.0 i;
      properties = pointwise_exact same_pair_exact left.properties right.properties rests.1 i;
    }

-- The levels of namespaces that are lent, and namespaces that compare as equal.
use Rattle.std.proofs.Common.{◌≡◌, true, List, [], ◌∷◌, map, refl, subst, ap, ◌∙◌, ◌&&◌, nat_eq}
use Rattle.std.proofs.lemmas.Bool.{eq-eqb}
use Rattle.std.specs.Cmp.Lexicographic.{lists_equiv, nat_list_eq_equiv, pointwise}
use Rattle.std.specs.Borrow.{Bor}
use Rattle.pol_content.specs.declared.rows.NamespaceRow.{NamespaceRow}
use Rattle.pol_properties.specs.Properties.{same_pair, same_pair_equiv}

-- the levels of namespaces that are lent
pub levels_shown : (lent : List (Bor NamespaceRow)) (rows : List NamespaceRow) → map (λ (row : Bor NamespaceRow). row.now) lent ≡ rows → map (λ (row : Bor NamespaceRow). row.now.levels) lent ≡ map (λ (row : NamespaceRow). row.levels) rows
levels_shown lent rows is = by lent ∙ ap (map (λ (row : NamespaceRow). row.levels)) is
  where
    by : (lent : List (Bor NamespaceRow)) → map (λ (row : Bor NamespaceRow). row.now.levels) lent ≡ map (λ (row : NamespaceRow). row.levels) (map (λ (row : Bor NamespaceRow). row.now) lent)
    by [] = refl
    by (row ∷ lent) = ap (λ rest. row.now.levels ∷ rest) (by lent)

-- equal namespaces compare as equal
pub namespace_rows_same : (left right : NamespaceRow) → left ≡ right
    → (nat_eq left.id right.id && (nat_eq left.catalog right.catalog && (pointwise (pointwise nat_eq) left.levels right.levels && pointwise same_pair left.properties right.properties))) ≡ true
namespace_rows_same left right is =
    subst (λ (row : NamespaceRow). (nat_eq left.id row.id && (nat_eq left.catalog row.catalog && (pointwise (pointwise nat_eq) left.levels row.levels && pointwise same_pair left.properties row.properties))) ≡ true) is
    (rw (eq-eqb left.id left.id refl, eq-eqb left.catalog left.catalog refl, (lists_equiv nat_list_eq_equiv).refl left.levels, (lists_equiv same_pair_equiv).refl left.properties) refl)

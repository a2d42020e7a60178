-- The names of catalogue roles that are lent.
use Rattle.std.proofs.Common.{◌≡◌, List, [], ◌∷◌, map, refl, ap, ◌∙◌}
use Rattle.std.specs.Borrow.{Bor}
use Rattle.pol_access.specs.Access.{catalog_role_name}
use Rattle.pol_access.specs.declared.rows.CatalogRoleRow.{CatalogRoleRow}

pub catalog_role_names_shown : (lent : List (Bor CatalogRoleRow)) (rows : List CatalogRoleRow) → map (λ (row : Bor CatalogRoleRow). row.now) lent ≡ rows → map (λ (row : Bor CatalogRoleRow). row.now.name) lent ≡ map catalog_role_name rows
catalog_role_names_shown lent rows is = by lent ∙ ap (map catalog_role_name) is
  where
    by : (lent : List (Bor CatalogRoleRow)) → map (λ (row : Bor CatalogRoleRow). row.now.name) lent ≡ map catalog_role_name (map (λ (row : Bor CatalogRoleRow). row.now) lent)
    by [] = refl
    by (row ∷ lent) = ap (λ rest. row.now.name ∷ rest) (by lent)

-- The names of principal roles that are lent.
use Rattle.std.proofs.Common.{◌≡◌, List, [], ◌∷◌, map, refl, ap, ◌∙◌}
use Rattle.std.specs.Borrow.{Bor}
use Rattle.pol_access.specs.Access.{principal_role_name}
use Rattle.pol_access.specs.declared.rows.PrincipalRoleRow.{PrincipalRoleRow}

-- the names of roles that are lent
pub role_names_shown : (lent : List (Bor PrincipalRoleRow)) (rows : List PrincipalRoleRow) → map (λ (row : Bor PrincipalRoleRow). row.now) lent ≡ rows → map (λ (row : Bor PrincipalRoleRow). row.now.name) lent ≡ map principal_role_name rows
role_names_shown lent rows is = by lent ∙ ap (map principal_role_name) is
  where
    by : (lent : List (Bor PrincipalRoleRow)) → map (λ (row : Bor PrincipalRoleRow). row.now.name) lent ≡ map principal_role_name (map (λ (row : Bor PrincipalRoleRow). row.now) lent)
    by [] = refl
    by (row ∷ lent) = ap (λ rest. row.now.name ∷ rest) (by lent)

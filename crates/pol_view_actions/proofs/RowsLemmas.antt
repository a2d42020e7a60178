-- The names of views that are lent.
use Rattle.std.proofs.Common.{◌≡◌, ℕ, List, [], ◌∷◌, map, refl, ap, ◌∙◌}
use Rattle.std.specs.Borrow.{Bor}
use Rattle.pol_view_rows.specs.declared.row.ViewRow.{ViewRow}
use Rattle.pol_table_actions.specs.Tables.{identifier_in}

pub identifiers_shown : (levels : List (List ℕ)) (lent : List (Bor ViewRow)) (rows : List ViewRow) → map (λ (view : Bor ViewRow). view.now) lent ≡ rows
    → map (λ (view : Bor ViewRow). identifier_in levels view.now.name) lent ≡ map (λ (view : ViewRow). identifier_in levels view.name) rows
identifiers_shown levels lent rows is = by lent ∙ ap (map (λ (view : ViewRow). identifier_in levels view.name)) is
  where
    by : (lent : List (Bor ViewRow)) → map (λ (view : Bor ViewRow). identifier_in levels view.now.name) lent ≡ map (λ (view : ViewRow). identifier_in levels view.name) (map (λ (view : Bor ViewRow). view.now) lent)
    by [] = refl
    by (view ∷ lent) = ap (λ rest. identifier_in levels view.now.name ∷ rest) (by lent)

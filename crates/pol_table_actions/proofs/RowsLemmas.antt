-- The names of tables that are lent.
use Rattle.std.proofs.Common.{◌≡◌, ℕ, List, [], ◌∷◌, map, refl, ap, ◌∙◌}
use Rattle.std.specs.Borrow.{Bor}
use Rattle.pol_table_rows.specs.declared.row.TableRow.{TableRow}
use Rattle.pol_table_actions.specs.Tables.{identifier_in}

pub identifiers_shown : (levels : List (List ℕ)) (lent : List (Bor TableRow)) (rows : List TableRow) → map (λ (table : Bor TableRow). table.now) lent ≡ rows
    → map (λ (table : Bor TableRow). identifier_in levels table.now.name) lent ≡ map (λ (table : TableRow). identifier_in levels table.name) rows
identifiers_shown levels lent rows is = by lent ∙ ap (map (λ (table : TableRow). identifier_in levels table.name)) is
  where
    by : (lent : List (Bor TableRow)) → map (λ (table : Bor TableRow). identifier_in levels table.now.name) lent ≡ map (λ (table : TableRow). identifier_in levels table.name) (map (λ (table : Bor TableRow). table.now) lent)
    by [] = refl
    by (table ∷ lent) = ap (λ rest. identifier_in levels table.now.name ∷ rest) (by lent)

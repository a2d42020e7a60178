use Rattle.std.proofs.Common.{◌≡◌, map, take}
use Rattle.pol_table_actions.specs.Tables.{identifier_in}
use Rattle.pol_table_actions.proofs.tables.identifiers_of.Given as goal

abbrev pub invariant-loop-table : goal.invariant-loop-table
invariant-loop-table l =
    l.identifiers.items ≡ map (λ table. identifier_in l.levels table.now.name) (take l.table-index l.tables)

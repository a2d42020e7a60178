use Rattle.std.proofs.Common.{◌≡◌, map, take}
use Rattle.pol_commit_actions.specs.declared.target.Committed.{Committed}
use Rattle.pol_commit_actions.proofs.locations.ids_of.Given as goal

abbrev pub invariant-loop-table : goal.invariant-loop-table
invariant-loop-table l = l.ids.items ≡ map (λ (table : Committed). table.after.id) (take l.table-index l.tables)

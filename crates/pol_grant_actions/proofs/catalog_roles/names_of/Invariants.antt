use Rattle.std.proofs.Common.{◌≡◌, map, take}
use Rattle.pol_grant_actions.proofs.catalog_roles.names_of.Given as goal

abbrev pub invariant-loop-row : goal.invariant-loop-row
invariant-loop-row l = l.names.items ≡ map (λ row. row.now.name) (take l.row-index l.rows)

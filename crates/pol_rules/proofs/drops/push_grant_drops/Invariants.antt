use Rattle.std.proofs.Common.{◌≡◌, ◌++◌, map, take}
use Rattle.pol_content.specs.declared.change.Change.TheVariants.{DropGrant}
use Rattle.pol_rules.proofs.drops.push_grant_drops.Given as goal

abbrev pub invariant-loop-row : goal.invariant-loop-row
invariant-loop-row l = l.changes.items ≡ l.initial.changes.items ++ map DropGrant (take l.row-index l.rows)

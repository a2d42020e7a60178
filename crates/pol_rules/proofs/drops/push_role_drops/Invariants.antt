use Rattle.std.proofs.Common.{◌≡◌, ◌++◌, map, take}
use Rattle.pol_content.specs.declared.change.Change.TheVariants.{DropCatalogRole}
use Rattle.pol_rules.proofs.drops.push_role_drops.Given as goal

abbrev pub invariant-loop-id : goal.invariant-loop-id
invariant-loop-id l = l.changes.items ≡ l.initial.changes.items ++ map DropCatalogRole (take l.id-index l.ids)

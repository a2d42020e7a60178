use Rattle.std.proofs.Common.{◌≡◌, map, take}
use Rattle.pol_content_actions.proofs.namespaces.levels_of.Given as goal

abbrev pub invariant-loop-row : goal.invariant-loop-row
invariant-loop-row l = l.levels.items ≡ map (λ row. row.now.levels) (take l.row-index l.rows)

use Rattle.pol_tokens.proofs.WalkLemmas.{Walks}
use Rattle.pol_tokens.proofs.held_table.HeldTable.count.Given as goal

abbrev pub invariant-rows : goal.invariant-rows
invariant-rows g l = Walks g.R.Held.holder l.fn.principal g.R.Held.expiry l.fn.now l.self-inside.table.rows l.place l.held

abbrev pub decreases-rows : goal.decreases-rows
decreases-rows g l = l.place

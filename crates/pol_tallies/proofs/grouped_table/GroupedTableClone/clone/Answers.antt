use Rattle.std.proofs.Common.{arith, refl}
use Rattle.pol_tallies.proofs.GroupedLemmas.{tallied_alike}
use Rattle.pol_tallies.proofs.grouped_table.GroupedTableClone.clone.Goals as goal

pub invariant_of-result : goal.invariant_of-result
invariant_of-result g c = (
  rw c.in_ok-table.ensures.cases (tallied_alike g.R.Grouped.groups g.R.Grouped.MOST c.self.inside.table.rows c.self.inside.tally c.in_ok-tally.tally (λ group. rw c.in_ok-tally.ensures.cases refl) c.self.invariant.0),
  omega arith,
)

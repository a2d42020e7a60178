use Rattle.std.proofs.Common.{arith}
use Rattle.pol_tallies.proofs.GroupedLemmas.{tallied_taken}
use Rattle.pol_tallies.proofs.grouped_table.GroupedTable.take.Goals as goal

pub invariant_of-self : goal.invariant_of-self
invariant_of-self g c = (
  rw c.take.ensures.rows (tallied_taken g.R.Keyed.key g.R.Grouped.groups g.R.Grouped.MOST c.args.id c.self.inside.table.rows c.self.inside.tally c.forget_known.new.tally c.forget_known.ensures.differ c.self.invariant.0 c.forget_known.ensures.counts),
  omega (arith, c.self.invariant.1, c.forget_known.ensures.room),
)

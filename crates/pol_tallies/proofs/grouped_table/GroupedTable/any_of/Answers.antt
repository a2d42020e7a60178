use Rattle.std.proofs.Common.{nat_lt, ap, ◌∙◌}
use Rattle.pol_tallies.proofs.GroupedLemmas.{any_of-above}
use Rattle.pol_tallies.proofs.grouped_table.GroupedTable.any_of.Goals as goal

pub returns : goal.returns
returns g c =
    rw (← c.self.view_is) (ap (nat_lt 0) (c.count.ensures ∙ c.self.invariant.0.counts c.args.group) ∙ any_of-above g.R.Grouped.groups c.args.group c.self.inside.table.rows)

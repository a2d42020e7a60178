use Rattle.std.proofs.Common.{ℕ, ◌<◌, get_or}
use Rattle.pol_tables.specs.Named.{IsMissed}
use Rattle.pol_tables.specs.declared.index.IndexEntry.{IndexEntry}
use Rattle.pol_tables.proofs.named_table.other_named.Given as goal

abbrev pub invariant-loop-noted : goal.invariant-loop-noted
invariant-loop-noted g l = (k : ℕ) (d : IndexEntry) → k < l.noted-index → IsMissed g.R.Keyed.key (g.N.NameOf.names l.name) l.table.rows (get_or l.others k d)

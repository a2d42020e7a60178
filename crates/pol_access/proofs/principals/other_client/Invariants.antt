use Rattle.std.proofs.Common.{ℕ, ◌<◌, get_or}
use Rattle.pol_access.specs.Access.{principal_id}
use Rattle.pol_access.specs.Names.{has_client_id}
use Rattle.pol_tables.specs.Named.{IsMissed}
use Rattle.pol_tables.specs.declared.index.IndexEntry.{IndexEntry}
use Rattle.pol_access.proofs.principals.other_client.Given as goal

abbrev pub invariant-loop-noted : goal.invariant-loop-noted
invariant-loop-noted l = (k : ℕ) (d : IndexEntry) → k < l.noted-index → IsMissed principal_id (has_client_id l.client_id) l.table.rows (get_or l.others k d)

use Rattle.std.proofs.Common.{sym}
use Rattle.pol_access.specs.Access.{principal_id}
use Rattle.pol_access.specs.Names.{client_number, has_client_id}
use Rattle.pol_tables.proofs.NamedLemmas.{found_row, missed_row}
use Rattle.pol_access.proofs.principals.client_by.Goals as goal

pub returns-then-eq : goal.returns-then-eq
returns-then-eq c = (
  found_row principal_id client_number (has_client_id c.args.client_id.now) c.args.table.now.rows c.args.id c.in_ok-row.row.now c.in_ok-row.ensures,
  sym (rw c.as_str.ensures at c.if-eq.ensures),
)

pub returns : goal.returns
returns c =
    missed_row principal_id client_number (has_client_id c.args.client_id.now) c.args.table.now.rows c.args.id c.in_ok-row.row.now c.in_ok-row.ensures (sym (rw c.as_str.ensures at c.if-eq.ensures))

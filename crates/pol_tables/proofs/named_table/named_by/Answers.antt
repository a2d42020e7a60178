use Rattle.std.proofs.Common.{sym}
use Rattle.pol_tables.proofs.NamedLemmas.{found_row, missed_row}
use Rattle.pol_tables.proofs.named_table.named_by.Goals as goal

pub returns-then-names : goal.returns-then-names
returns-then-names g c = (
  found_row g.R.Keyed.key g.R.Named.number (g.N.NameOf.names c.args.name.now) c.args.table.now.rows c.args.id c.in_ok-row.row.now c.in_ok-row.ensures,
  sym c.if-names.ensures,
)

pub returns : goal.returns
returns g c =
    missed_row g.R.Keyed.key g.R.Named.number (g.N.NameOf.names c.args.name.now) c.args.table.now.rows c.args.id c.in_ok-row.row.now c.in_ok-row.ensures (sym c.if-names.ensures)

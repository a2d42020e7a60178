use Rattle.std.specs.Option.{option_copied}
use Rattle.pol_access.proofs.NamesLemmas.{first_found}
use Rattle.pol_table_rows.specs.Tables.{is_table_named, table_id}
use Rattle.pol_table_rows.proofs.NamesLemmas.{tables_alike}
use Rattle.pol_table_rows.proofs.tables.Tables.named.Goals as goal

pub returns-clause-first : goal.returns-clause-first
returns-clause-first c differ =
    rw (← c.self.view_is) (first_found table_id (is_table_named c.args.namespace c.args.name.now) (λ left right. is_table_named left.namespace left.name right) (tables_alike c.args.namespace c.args.name.now) c.self.inside.rows.rows (rw (← c.self.view_is) at differ) (option_copied c.named.result) c.named.ensures)

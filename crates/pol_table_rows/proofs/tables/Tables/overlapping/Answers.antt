use Rattle.std.proofs.Common.{option_and_then, ap, ◌∙◌}
use Rattle.pol_table_rows.specs.Tables.{table_id}
use Rattle.pol_table_rows.proofs.OverlapLemmas.{first-clash}
use Rattle.pol_tables.specs.Table.{row_of}
use Rattle.pol_table_rows.proofs.tables.Tables.overlapping.Goals as goal

pub returns-in_err-id : goal.returns-in_err-id
returns-in_err-id c rise =
    let rows = c.self.inside.rows.rows in
    rw (c.from_residual.ensures, ← c.self.view_is) (ap (option_and_then (λ id. row_of table_id id rows)) c.in_err-id.ensures ∙ first-clash c.args.wanted.now c.args.except.now c.self.inside.places.members rows c.self.invariant (rw (← c.self.view_is) at rise))

pub returns : goal.returns
returns c rise =
    let rows = c.self.inside.rows.rows in
    rw (← c.self.view_is) (c.find.ensures ∙ ap (option_and_then (λ id. row_of table_id id rows)) c.in_ok-id.ensures ∙ first-clash c.args.wanted.now c.args.except.now c.self.inside.places.members rows c.self.invariant (rw (← c.self.view_is) at rise))

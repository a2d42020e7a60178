use Rattle.std.proofs.Common.{List, ap, ◌∙◌}
use Rattle.pol_meta.specs.Columns.{has_field}
use Rattle.pol_meta.specs.declared.column.Column.{Column}
use Rattle.pol_metacodec.proofs.IdLemmas.{fields_among}
use Rattle.pol_metacodec.proofs.schema.names_fields.Goals as goal

pub returns : goal.returns
returns c =
    c.are_among.ensures
    ∙ fields_among c.in_ok-ids.ids.keys c.args.schema.now.fields c.args.schema.now.identifier_field_ids
    (λ id. c.in_ok-ids.ensures id ∙ ap (λ (columns : List Column). has_field columns id) c.as_slice.ensures)

-- Laws of the JSON of metadata.
use Rattle.pol_readers.specs.Forms as form
use Rattle.pol_readers.specs.Grammar.{Exact, IsBody}
use Rattle.pol_metajson.specs.Table.{create_table}

-- a body that creates a table is read exactly where the bytes are an object of JSON that is of the grammar
abbrev pub CreateTablesAreExact : Type 0
CreateTablesAreExact = Exact (form.body create_table.read) (IsBody create_table.stands)

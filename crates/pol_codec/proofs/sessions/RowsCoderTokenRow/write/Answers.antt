use Rattle.pol_forms.specs.Enums.{truth}
use Rattle.pol_forms.specs.Forms.{number}
use Rattle.pol_forms.specs.Names.{location}
use Rattle.pol_codec.specs.Rows.{token}
use Rattle.pol_codec.proofs.ChainLemmas.{nine_written}
use Rattle.pol_codec.proofs.sessions.RowsCoderTokenRow.write.Goals as goal

pub returns-clause-bytes : goal.returns-clause-bytes
unfolding token
returns-clause-bytes c =
    let row = c.args.row.now in
    nine_written c.write-9.result c.args.written.now.items c.write.new.written.items c.write-2.new.written.items c.write-3.new.written.items
    c.write-4.new.written.items c.write-5.new.written.items c.write-6.new.written.items c.write-7.new.written.items c.write-8.new.written.items
    c.write-9.new.written.items
    (number.write row.serial) (number.write row.word_a) (number.write row.word_b) (number.write row.principal)
    (number.write row.table) (number.write row.moves) (location.write row.location) (truth.write row.write) (number.write row.expires)
    c.in_ok-write.ensures.bytes c.in_ok-write-2.ensures.bytes c.in_ok-write-3.ensures.bytes c.in_ok-write-4.ensures.bytes
    c.in_ok-write-5.ensures.bytes c.in_ok-write-6.ensures.bytes c.in_ok-write-7.ensures.bytes c.in_ok-write-8.ensures.bytes
    c.write-9.ensures.bytes

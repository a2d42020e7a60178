use Rattle.std.proofs.Common.{◌≡◌, ◌++◌, subst}
use Rattle.std.specs.Prelude.{OnOk}
use Rattle.pol_forms.specs.Forms.{number}
use Rattle.pol_forms.specs.Names.{location}
use Rattle.pol_meta.specs.declared.metadata.TableMetadata.{TableMetadata}
use Rattle.pol_metacodec.specs.Metadata.{metadata}
use Rattle.pol_partcodec.proofs.ChainLemmas.{seven_written}
use Rattle.pol_changecodec.specs.Tables.{name, table_row}
use Rattle.pol_changecodec.proofs.rows.ChangesCoderTableRow.write.Goals as goal

pub returns-clause-bytes : goal.returns-clause-bytes
unfolding table_row
returns-clause-bytes c =
    let row = c.args.row.now in
    seven_written c.write-7.result c.args.written.now.items c.write.new.written.items c.write-2.new.written.items c.write-3.new.written.items
    c.write-4.new.written.items c.write-5.new.written.items c.write-6.new.written.items c.write-7.new.written.items
    (number.write row.id) (number.write row.namespace) (name.write row.name) (number.write row.version)
    (number.write row.moves) (location.write row.location) (metadata.write row.metadata)
    c.in_ok-write.ensures.bytes c.in_ok-write-2.ensures.bytes c.in_ok-write-3.ensures.bytes c.in_ok-write-4.ensures.bytes
    c.in_ok-write-5.ensures.bytes c.in_ok-write-6.ensures.bytes
    (subst (λ (meta : TableMetadata). OnOk c.write-7.result (c.write-7.new.written.items ≡ c.write-6.new.written.items ++ metadata.write meta)) c.get.ensures c.write-7.ensures.bytes)

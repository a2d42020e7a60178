use Rattle.pol_forms.specs.Enums.{optional}
use Rattle.pol_forms.specs.Forms.{text}
use Rattle.pol_forms.specs.Names.{properties}
use Rattle.pol_partcodec.specs.Numbers.{id, long}
use Rattle.pol_partcodec.specs.Parts as parts
use Rattle.pol_partcodec.proofs.ChainLemmas.{seven_written}
use Rattle.pol_partcodec.proofs.snapshot.PartsCoderSnapshot.write.Goals as goal

pub returns-clause-bytes : goal.returns-clause-bytes
unfolding parts.snapshot parts.snapshot_fields
returns-clause-bytes c =
    let one = c.args.one.now in
    seven_written c.write-7.result c.args.written.now.items c.write.new.written.items c.write-2.new.written.items c.write-3.new.written.items
    c.write-4.new.written.items c.write-5.new.written.items c.write-6.new.written.items c.write-7.new.written.items
    (long.write one.snapshot_id) ((optional long).write one.parent_snapshot_id) (long.write one.sequence_number) (long.write one.timestamp_ms)
    (text.write one.manifest_list) (properties.write one.summary) ((optional id).write one.schema_id)
    c.in_ok-write.ensures.bytes c.in_ok-write-2.ensures.bytes c.in_ok-write-3.ensures.bytes c.in_ok-write-4.ensures.bytes
    c.in_ok-write-5.ensures.bytes c.in_ok-write-6.ensures.bytes c.write-7.ensures.bytes

use Rattle.pol_forms.specs.Enums.{optional}
use Rattle.pol_forms.specs.Forms.{list, text}
use Rattle.pol_forms.specs.Names.{namespace, properties}
use Rattle.pol_partcodec.specs.Numbers.{id, long}
use Rattle.pol_partcodec.proofs.ChainLemmas.{seven_written}
use Rattle.pol_viewcodec.specs.Views.{representation, view_version}
use Rattle.pol_viewcodec.proofs.version.ViewsCoderViewVersion.write.Goals as goal

pub returns-clause-bytes : goal.returns-clause-bytes
unfolding view_version
returns-clause-bytes c =
    let one = c.args.one.now in
    seven_written c.write-7.result c.args.written.now.items c.write.new.written.items c.write-2.new.written.items c.write-3.new.written.items
    c.write-4.new.written.items c.write-5.new.written.items c.write-6.new.written.items c.write-7.new.written.items
    (id.write one.version_id) (long.write one.timestamp_ms) (id.write one.schema_id) (properties.write one.summary)
    ((list representation).write one.representations) ((optional text).write one.default_catalog) (namespace.write one.default_namespace)
    c.in_ok-write.ensures.bytes c.in_ok-write-2.ensures.bytes c.in_ok-write-3.ensures.bytes c.in_ok-write-4.ensures.bytes
    c.in_ok-write-5.ensures.bytes c.in_ok-write-6.ensures.bytes c.write-7.ensures.bytes

use Rattle.pol_bodies.specs.TableBody.{create_table_of, read_formed}
use Rattle.pol_bodies.proofs.TableBodyLemmas.{asked}
use Rattle.pol_bodies.proofs.table_body.create_table_of.Goals as goal

pub returns-in-Ok : goal.returns-in-Ok
unfolding create_table_of
returns-in-Ok c = asked _ (read_formed c.args.bytes.now) c.in-Ok.request c.in-Ok.ensures.reading _

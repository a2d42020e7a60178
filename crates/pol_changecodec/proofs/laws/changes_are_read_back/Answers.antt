use Rattle.pol_changecodec.specs.Change.{changes}
use Rattle.pol_changecodec.proofs.laws.changes_are_read_back.Goals as goal

pub returns : goal.returns
returns c = changes.reads_back

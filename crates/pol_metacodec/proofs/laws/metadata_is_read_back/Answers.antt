use Rattle.pol_metacodec.specs.Metadata.{metadata}
use Rattle.pol_metacodec.proofs.laws.metadata_is_read_back.Goals as goal

pub returns : goal.returns
returns c = metadata.reads_back

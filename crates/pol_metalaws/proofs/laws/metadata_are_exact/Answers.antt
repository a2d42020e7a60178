use Rattle.pol_readers.specs.Exactness.{bodies_exact}
use Rattle.pol_metaread.specs.Metadata.{table_metadata}
use Rattle.pol_metalaws.proofs.laws.metadata_are_exact.Goals as goal

pub returns : goal.returns
returns c = bodies_exact table_metadata.exact

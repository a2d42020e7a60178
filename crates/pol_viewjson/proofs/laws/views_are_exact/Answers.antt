use Rattle.pol_readers.specs.Exactness.{bodies_exact}
use Rattle.pol_viewjson.specs.Metadata.{view_metadata}
use Rattle.pol_viewjson.proofs.laws.views_are_exact.Goals as goal

pub returns : goal.returns
returns c = bodies_exact view_metadata.exact

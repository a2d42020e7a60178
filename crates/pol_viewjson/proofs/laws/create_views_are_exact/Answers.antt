use Rattle.pol_readers.specs.Exactness.{bodies_exact}
use Rattle.pol_viewjson.specs.Requests.{create_view}
use Rattle.pol_viewjson.proofs.laws.create_views_are_exact.Goals as goal

pub returns : goal.returns
returns c = bodies_exact create_view.exact

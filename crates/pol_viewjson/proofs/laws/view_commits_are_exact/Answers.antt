use Rattle.pol_readers.specs.Exactness.{bodies_exact}
use Rattle.pol_viewjson.specs.Requests.{view_commit}
use Rattle.pol_viewjson.proofs.laws.view_commits_are_exact.Goals as goal

pub returns : goal.returns
returns c = bodies_exact view_commit.exact

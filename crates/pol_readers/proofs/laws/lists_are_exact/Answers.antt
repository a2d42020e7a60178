use Rattle.pol_readers.specs.Exactness.{lists_exact}
use Rattle.pol_readers.proofs.laws.lists_are_exact.Goals as goal

pub returns : goal.returns
returns g c = lists_exact g.F.Form.shape.exact

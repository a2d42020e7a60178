use Rattle.pol_readers.specs.Exactness.{entries_exact}
use Rattle.pol_readers.proofs.laws.entries_are_exact.Goals as goal

pub returns : goal.returns
returns g c = entries_exact g.F.Form.shape.exact

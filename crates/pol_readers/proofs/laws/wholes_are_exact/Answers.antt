use Rattle.pol_readers.specs.Exactness.{wholes_exact}
use Rattle.pol_readers.proofs.laws.wholes_are_exact.Goals as goal

pub returns : goal.returns
returns g c = wholes_exact g.F.Form.shape.exact

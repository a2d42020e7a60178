use Rattle.pol_readers.specs.Exactness.{bodies_exact}
use Rattle.pol_readers.proofs.laws.bodies_are_exact.Goals as goal

pub returns : goal.returns
returns g c = bodies_exact g.F.Form.shape.exact

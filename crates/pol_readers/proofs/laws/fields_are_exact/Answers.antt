use Rattle.pol_readers.specs.Exactness.{fields_exact}
use Rattle.pol_readers.proofs.laws.fields_are_exact.Goals as goal

pub returns : goal.returns
returns g c = fields_exact g.F.Form.shape.exact

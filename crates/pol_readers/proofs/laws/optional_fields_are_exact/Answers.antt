use Rattle.pol_readers.specs.Exactness.{optional_fields_exact}
use Rattle.pol_readers.proofs.laws.optional_fields_are_exact.Goals as goal

pub returns : goal.returns
returns g c = optional_fields_exact g.F.Form.shape.exact

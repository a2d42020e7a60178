use Rattle.pol_readers.specs.Exactness.{numbers_or_minus_one_exact}
use Rattle.pol_readers.proofs.laws.numbers_or_minus_one_are_exact.Goals as goal

pub returns : goal.returns
returns g c = numbers_or_minus_one_exact g.F.Form.shape.exact

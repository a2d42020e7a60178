use Rattle.pol_readers.specs.Exactness.{numbers_exact}
use Rattle.pol_readers.proofs.laws.numbers_are_exact.Goals as goal

pub returns : goal.returns
returns c = numbers_exact

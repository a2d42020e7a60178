use Rattle.pol_readers.specs.Exactness.{texts_exact}
use Rattle.pol_readers.proofs.laws.texts_are_exact.Goals as goal

pub returns : goal.returns
returns c = texts_exact

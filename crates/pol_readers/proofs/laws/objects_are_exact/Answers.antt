use Rattle.pol_readers.specs.Exactness.{objects_exact}
use Rattle.pol_readers.proofs.laws.objects_are_exact.Goals as goal

pub returns : goal.returns
returns c = objects_exact

use Rattle.pol_readers.specs.Exactness.{truth_values_exact}
use Rattle.pol_readers.proofs.laws.truth_values_are_exact.Goals as goal

pub returns : goal.returns
returns c = truth_values_exact

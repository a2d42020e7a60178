use Rattle.pol_linklaws.proofs.OutputLemmas.{one_output}
use Rattle.pol_linklaws.proofs.laws.one_output.Goals as goal

pub returns : goal.returns
returns c = one_output

use Rattle.pol_linklaws.proofs.CauseLemmas.{faults_have_causes}
use Rattle.pol_linklaws.proofs.laws.faults_have_causes.Goals as goal

pub returns : goal.returns
returns c = faults_have_causes

use Rattle.pol_forms.proofs.LawLemmas.{wholes_exact}
use Rattle.pol_changecodec.specs.Change.{changes}
use Rattle.pol_changecodec.proofs.laws.changes_are_exact.Goals as goal

pub returns : goal.returns
returns c = wholes_exact changes

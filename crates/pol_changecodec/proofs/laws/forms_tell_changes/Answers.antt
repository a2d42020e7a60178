use Rattle.pol_forms.proofs.LawLemmas.{tell_values}
use Rattle.pol_changecodec.specs.Change.{changes}
use Rattle.pol_changecodec.proofs.laws.forms_tell_changes.Goals as goal

pub returns : goal.returns
returns c = tell_values changes

use Rattle.pol_forms.proofs.LawLemmas.{cut_once}
use Rattle.pol_changecodec.specs.Change.{changes}
use Rattle.pol_changecodec.proofs.laws.changes_are_cut_once.Goals as goal

pub returns : goal.returns
returns c = cut_once changes

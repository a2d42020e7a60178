use Rattle.pol_forms.proofs.LawLemmas.{wholes_exact}
use Rattle.pol_metacodec.specs.Metadata.{metadata}
use Rattle.pol_metacodec.proofs.laws.metadata_is_exact.Goals as goal

pub returns : goal.returns
returns c = wholes_exact metadata

use Rattle.pol_forms.proofs.LawLemmas.{cut_once}
use Rattle.pol_metacodec.specs.Metadata.{metadata}
use Rattle.pol_metacodec.proofs.laws.metadata_is_cut_once.Goals as goal

pub returns : goal.returns
returns c = cut_once metadata

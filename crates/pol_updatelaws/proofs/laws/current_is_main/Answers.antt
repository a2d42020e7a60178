use Rattle.pol_updatelaws.proofs.CurrentLemmas as lemmas
use Rattle.pol_updatelaws.proofs.laws.current_is_main.Goals as goal

pub returns : goal.returns
returns c = lemmas.current_is_main

use Rattle.pol_updatelaws.proofs.SequenceLemmas as lemmas
use Rattle.pol_updatelaws.proofs.laws.sequence_rises.Goals as goal

pub returns : goal.returns
returns c = lemmas.sequence_rises

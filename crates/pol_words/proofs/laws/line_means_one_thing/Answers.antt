use Rattle.pol_words.proofs.LineLemmas.{means-one}
use Rattle.pol_words.proofs.laws.line_means_one_thing.Goals as goal

pub returns : goal.returns
returns c = means-one

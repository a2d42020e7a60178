use Rattle.pol_readers.specs.Exactness.{words_exact}
use Rattle.pol_readers.proofs.laws.words_are_exact.Goals as goal

pub returns : goal.returns
returns g c = words_exact g.W.Word.words

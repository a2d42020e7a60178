use Rattle.pol_readers.specs.Exactness.{fixed_words_exact}
use Rattle.pol_readers.proofs.laws.fixed_words_are_exact.Goals as goal

pub returns : goal.returns
returns c = fixed_words_exact

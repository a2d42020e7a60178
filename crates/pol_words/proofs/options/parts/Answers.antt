use Rattle.pol_words.proofs.OptionLemmas.{cut}
use Rattle.pol_words.proofs.options.parts.Goals as goal

pub returns : goal.returns
returns c = cut c.args.word.now c.split_once.result c.split_once.ensures.cases

use Rattle.std.proofs.Common.{arith}
use Rattle.pol_words.proofs.OptionLemmas.{many-more, many-none}
use Rattle.pol_words.proofs.options.+are_options.Goals as goal

pub returns-in-Some : goal.returns-in-Some
returns-in-Some t c =
    many-more c.args.words.now (c.in-Some.field-0-0.now, c.in-Some.field-0-1.now) c.in-Some.rest.now c.in-Some.ensures c.are_options.result c.args.count (omega arith) c.are_options.ensures

pub returns-in-None : goal.returns-in-None
returns-in-None t c = many-none c.args.words.now c.args.count (omega arith) c.in-None.ensures

use Rattle.pol_commitjson.specs.Requirements.{type_words}
use Rattle.pol_commitjson.proofs.WordLemmas.{unknown}
use Rattle.pol_commitjson.proofs.requirements.RequirementTypeWord.of_word.Goals as goal

pub returns-in_default : goal.returns-in_default
returns-in_default c = unknown type_words c.args.word.now (c.in_default.not-text, (c.in_default.not-text-2, (c.in_default.not-text-3, (c.in_default.not-text-4, (c.in_default.not-text-5, (c.in_default.not-text-6, (c.in_default.not-text-7, (c.in_default.not-text-8, tt))))))))

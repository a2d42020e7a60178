use Rattle.pol_commitjson.proofs.WordLemmas.{unknown}
use Rattle.pol_viewjson.specs.Actions.{action_words}
use Rattle.pol_viewjson.proofs.action.ViewActionWord.of_word.Goals as goal

pub returns-in_default : goal.returns-in_default
returns-in_default c = unknown action_words c.args.word.now (c.in_default.not-text, (c.in_default.not-text-2, (c.in_default.not-text-3, (c.in_default.not-text-4, (c.in_default.not-text-5, (c.in_default.not-text-6, (c.in_default.not-text-7, (c.in_default.not-text-8, (c.in_default.not-text-9, (c.in_default.not-text-10, (c.in_default.not-text-11, (c.in_default.not-text-12, (c.in_default.not-text-13, (c.in_default.not-text-14, tt))))))))))))))

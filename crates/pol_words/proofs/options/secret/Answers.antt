use Rattle.std.proofs.Common.{[], ◌∷◌}
use Rattle.pol_words.specs.declared.names.TheConstants.{ROOT_SECRET}
use Rattle.pol_words.proofs.OrderLemmas.{lacking, too-many}
use Rattle.pol_words.proofs.options.secret.Goals as goal

pub returns-then-not-are_options : goal.returns-then-not-are_options
returns-then-not-are_options c = too-many c.args.words.now (ROOT_SECRET.now ∷ []) c.if-not-are_options.ensures

pub returns-in_default : goal.returns-in_default
returns-in_default c = lacking c.args.words.now ROOT_SECRET.now [] [] c.in_default.ensures

use Rattle.pol_tokens.proofs.TextLemmas.{text_of_token-tell}
use Rattle.pol_tokens.proofs.laws.texts_tell_tokens.Goals as goal

pub returns : goal.returns
returns c = text_of_token-tell

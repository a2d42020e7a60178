use Rattle.pol_machine.proofs.TokensLemmas.{open-lies}
use Rattle.pol_machine.proofs.laws.open_tokens_lie_at_their_tables.Goals as goal

pub returns : goal.returns
returns c = open-lies

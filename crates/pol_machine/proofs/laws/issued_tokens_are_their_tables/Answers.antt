use Rattle.pol_machine.proofs.TokensLemmas.{issued-own}
use Rattle.pol_machine.proofs.laws.issued_tokens_are_their_tables.Goals as goal

pub returns : goal.returns
returns c s command token sound moment issued = issued-own s command token sound issued

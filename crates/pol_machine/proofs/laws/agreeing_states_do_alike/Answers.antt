use Rattle.pol_machine.proofs.AgreeLemmas.{agreeing-alike}
use Rattle.pol_machine.proofs.laws.agreeing_states_do_alike.Goals as goal

pub returns : goal.returns
returns c = agreeing-alike

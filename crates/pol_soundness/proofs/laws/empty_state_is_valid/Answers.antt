use Rattle.pol_soundness.proofs.ValidLemmas.{empty-valid}
use Rattle.pol_soundness.proofs.laws.empty_state_is_valid.Goals as goal

pub returns : goal.returns
returns c = empty-valid

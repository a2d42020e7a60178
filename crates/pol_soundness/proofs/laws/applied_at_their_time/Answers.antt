use Rattle.pol_soundness.proofs.ValidLemmas.{applied-after}
use Rattle.pol_soundness.proofs.laws.applied_at_their_time.Goals as goal

pub returns : goal.returns
returns c = applied-after

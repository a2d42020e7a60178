use Rattle.pol_readers.proofs.KeyLemmas.{last_counts}
use Rattle.pol_readers.proofs.laws.last_of_equal_keys_counts.Goals as goal

pub returns : goal.returns
returns g c = last_counts g.F.Form.shape.read

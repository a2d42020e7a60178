use Rattle.pol_readers.proofs.KeyLemmas.{others_ignored}
use Rattle.pol_readers.proofs.laws.other_keys_are_ignored.Goals as goal

pub returns : goal.returns
returns g c = others_ignored g.F.Form.shape.read

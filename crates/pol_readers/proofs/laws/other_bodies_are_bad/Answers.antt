use Rattle.pol_readers.proofs.BodyLemmas.{others_bad}
use Rattle.pol_readers.proofs.laws.other_bodies_are_bad.Goals as goal

pub returns : goal.returns
returns g c = others_bad g.F.Form.shape.read

use Rattle.pol_access.proofs.PrivilegeLemmas.{text-read}
use Rattle.pol_access.proofs.laws.texts_read_back.Goals as goal

pub returns : goal.returns
returns c = text-read

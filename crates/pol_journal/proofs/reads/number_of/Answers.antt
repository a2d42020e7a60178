use Rattle.std.proofs.lemmas.Nat.{be_bytes_8}
use Rattle.pol_journal.proofs.reads.number_of.Goals as goal

pub returns-clause-bytes : goal.returns-clause-bytes
returns-clause-bytes c = be_bytes_8 c.args.bytes.now c.from_be_bytes.result c.told-bytes c.fits-bytes c.from_be_bytes.ensures

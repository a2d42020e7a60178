use Rattle.std.proofs.Common.{rules}
use Rattle.pol_disk.proofs.ImagesLemmas.{Torn-refl}
use Rattle.pol_disk.proofs.memory.content.read_after_write.Goals as goal

pub returns-in_ok-from_slice-in-Err-clause-torn : goal.returns-in_ok-from_slice-in-Err-clause-torn
returns-in_ok-from_slice-in-Err-clause-torn c = search (rules, Torn-refl)

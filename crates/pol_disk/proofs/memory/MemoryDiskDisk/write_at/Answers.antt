use Rattle.std.proofs.Common.{rules}
use Rattle.pol_disk.proofs.ImagesLemmas.{Torn-refl, length_written, torn_same}
use Rattle.pol_disk.proofs.memory.MemoryDiskDisk.write_at.Goals as goal

pub returns-in_err-go_on-clause-torn : goal.returns-in_err-go_on-clause-torn
returns-in_err-go_on-clause-torn c = search (rules, Torn-refl)

pub returns-in_err-go_on-clause-crash : goal.returns-in_err-go_on-clause-crash
returns-in_err-go_on-clause-crash c = search (rules, torn_same)

pub returns-clause-torn : goal.returns-clause-torn
returns-clause-torn c = search (rules, Torn-refl)

pub returns-clause-size : goal.returns-clause-size
returns-clause-size c = search (rules, length_written)

use Rattle.std.proofs.Common.{rules}
use Rattle.pol_disk.proofs.ImagesLemmas.{settled_only}
use Rattle.pol_disk.proofs.memory.MemoryDiskDisk.sync.Goals as goal

pub returns-clause-durable : goal.returns-clause-durable
returns-clause-durable c = search (rules, settled_only)

pub returns-clause-crash : goal.returns-clause-crash
returns-clause-crash c = search (rules, settled_only)

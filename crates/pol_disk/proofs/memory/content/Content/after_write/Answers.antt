use Rattle.std.proofs.Common.{length, rules}
use Rattle.pol_disk.proofs.ImagesLemmas.{torn_follows}
use Rattle.pol_disk.proofs.memory.content.Content.after_write.Goals as goal

pub returns-clause-crash : goal.returns-clause-crash
returns-clause-crash c =
    torn_follows c.args.at (length c.args.bytes.now) c.args.self.now _ (search rules) (search rules) (search rules) (search rules)

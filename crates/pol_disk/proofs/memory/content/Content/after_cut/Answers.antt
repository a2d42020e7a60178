use Rattle.std.proofs.Common.{rules}
use Rattle.pol_disk.proofs.ImagesLemmas.{cut_follows}
use Rattle.pol_disk.proofs.memory.content.Content.after_cut.Goals as goal

pub returns-clause-crash : goal.returns-clause-crash
returns-clause-crash c = cut_follows c.args.kept c.args.self.now _ (search rules) (search rules) (search rules) (search rules)

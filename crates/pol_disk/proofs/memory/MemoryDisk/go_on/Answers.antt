use Rattle.std.proofs.Common.{◌≡◌, [], ◌∷◌, ◌++◌, rules}
use Rattle.pol_disk.proofs.MomentsLemmas.{elapses_push}
use Rattle.pol_disk.proofs.memory.MemoryDisk.go_on.Goals as goal

pub returns-clause-time : goal.returns-clause-time
returns-clause-time c =
    let pushed : c.push.new.self.items ≡ c.args.self.now.past ++ c.args.self.now.content ∷ [] = search rules in
    elapses_push c.args.self.now _ _ pushed

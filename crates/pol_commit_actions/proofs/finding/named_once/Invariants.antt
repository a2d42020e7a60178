use Rattle.std.proofs.Common.{◌≡◌, drop, nat_eq, take}
use Rattle.std.specs.List.{IsDistinct}
use Rattle.pol_commit_actions.specs.Rules.{table_twice, twice_after}
use Rattle.pol_commit_actions.specs.Seen.{commits_to}
use Rattle.pol_commit_actions.proofs.LoopLemmas.{ids_to}
use Rattle.pol_commit_actions.proofs.finding.named_once.Given as goal

abbrev pub invariant-loop-second : goal.invariant-loop-second
invariant-loop-second l = record {
  held : l.ids.keys ≡ ids_to (take l.second l.targets);
  differ : IsDistinct nat_eq (ids_to (take l.second l.targets));
  left : twice_after (ids_to (take l.second l.targets)) (ids_to (drop l.second l.targets)) ≡ table_twice (commits_to l.targets);
}

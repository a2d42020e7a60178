use Rattle.std.proofs.Common.{◌≡◌, None, length}
use Rattle.pol_commit_actions.specs.Rules.{bad_location_from}
use Rattle.pol_commit_actions.specs.Seen.{committed_tables}
use Rattle.pol_commit_actions.proofs.MadeLemmas.{made_at}
use Rattle.pol_commit_actions.proofs.locations.all_committed.Given as goal

abbrev pub invariant-loop-meta : goal.invariant-loop-meta
invariant-loop-meta l = record {
  seen : committed_tables l.made.items ≡ made_at l.targets l.fn.metas.items (length l.yielded);
  good : bad_location_from 0 (made_at l.targets l.fn.metas.items (length l.yielded)) ≡ None;
  count : length l.made.items ≡ length l.yielded;
}

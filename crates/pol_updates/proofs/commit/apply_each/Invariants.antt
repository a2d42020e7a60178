use Rattle.std.proofs.Common.{◌≡◌, ◌+◌, drop}
use Rattle.pol_updates.specs.Updates.{after_each}
use Rattle.pol_updates.proofs.commit.apply_each.Given as goal

abbrev pub invariant-loop-index : goal.invariant-loop-index
invariant-loop-index g l = record {
  made : after_each l.moment 0 l.updates l.initial.draft ≡ after_each l.moment l.index (drop l.index l.updates) l.draft;
  counted : l.steps ≡ l.initial.steps + l.index;
}
